-- Paths and lists of paths in a line.
use Rattle.std.specs.Prelude.{ℕ, Bool, true, false, not, ◌&&◌, ◌||◌, ◌==◌, List, [], ◌∷◌, take, drop, filter, Option, Some, None, Result, Ok, if◌then◌else◌}
use Rattle.std.specs.List.{onto_first}
use Rattle.rev_syntax.specs.declared.bytes.End.TheVariants.{PathEnd, ListEnd}
use Rattle.rev_syntax.specs.declared.fault.SyntaxKind.{SyntaxKind}
use Rattle.rev_syntax.specs.declared.fault.SyntaxFault.{SyntaxFault}
use Rattle.rev_syntax.specs.declared.paths.Mark.{Mark}
use Rattle.rev_syntax.specs.declared.paths.Mark.TheVariants.{Bar, TwoBars, BarAt}
use Rattle.rev_syntax.specs.Bytes.{without_spaces, is_empty, begins_with}
use Rattle.rev_syntax.specs.Ends.{free_len}
use Rattle.rev_syntax.specs.Lines.{LineValue}
use Rattle.rev_syntax.specs.Texts.{PieceValue, fault_of, pieces_of}
use Rattle.rev_syntax.specs.Faults.{refused, and_then, stuck}

abbrev pub text_or_fault : LineValue → Option SyntaxKind → List PieceValue → Result (List PieceValue) SyntaxFault
text_or_fault line None pieces = Ok pieces
text_or_fault line (Some kind) pieces = refused line kind

-- the text that these bytes of a line are, or its first fault
abbrev pub text_of : LineValue → List ℕ → Result (List PieceValue) SyntaxFault
text_of line raw = text_or_fault line (fault_of raw) (pieces_of raw)

-- a part of a line, and what follows it
abbrev pub Part : Type 0 → Type 0
Part A = A × List ℕ

-- a path up to its end; there is at least one byte of it
abbrev pub path_of : LineValue → List ℕ → Result (Part (List PieceValue)) SyntaxFault
path_of line text =
    let n = free_len PathEnd false text in
    if is_empty (take n text) then stuck line text
    else and_then (text_of line (take n text)) (λ path. Ok (path, without_spaces (drop n text)))

-- the pieces round the spaces that no `$` takes along; the flag says whether a `$` takes the first byte
abbrev pub split_free : Bool → List ℕ → List (List ℕ)
split_free taken [] = [] ∷ []
split_free true (b ∷ bs) = onto_first b (split_free false bs)
split_free false (b ∷ bs) = if b == 32 then [] ∷ split_free false bs else onto_first b (split_free (b == 36) bs)

-- the paths between such spaces, as they stand there
abbrev pub raw_paths : List ℕ → List (List ℕ)
raw_paths text = filter (λ raw. not (is_empty raw)) (split_free false text)

-- the paths, or the first fault in them
abbrev pub texts_of : LineValue → List (List ℕ) → Result (List (List PieceValue)) SyntaxFault
texts_of line [] = Ok []
texts_of line (raw ∷ raws) =
    and_then (text_of line raw) (λ text. and_then (texts_of line raws) (λ texts. Ok (text ∷ texts)))

-- a list of paths, which goes on up to a colon, a bar or the line's end
abbrev pub list_of : LineValue → List ℕ → Result (Part (List (List PieceValue))) SyntaxFault
list_of line text =
    let n = free_len ListEnd false text in
    and_then (texts_of line (raw_paths (take n text))) (λ paths. Ok (paths, drop n text))

-- what follows a mark, where that mark stands: `||` and `|@` are no `|`
abbrev pub after_mark : Mark → List ℕ → Option (List ℕ)
after_mark mark [] = None
after_mark Bar (b ∷ bs) = if b == 124 && not (begins_with 124 bs || begins_with 64 bs) then Some bs else None
after_mark TwoBars (b ∷ bs) = if b == 124 && begins_with 124 bs then Some (drop 1 bs) else None
after_mark BarAt (b ∷ bs) = if b == 124 && begins_with 64 bs then Some (drop 1 bs) else None

abbrev pub list_from : LineValue → List ℕ → Option (List ℕ) → Result (Part (List (List PieceValue))) SyntaxFault
list_from line text None = Ok ([], text)
list_from line text (Some after) = list_of line after

-- the list behind a mark, which is empty where the mark does not stand
abbrev pub list_after : LineValue → Mark → List ℕ → Result (Part (List (List PieceValue))) SyntaxFault
list_after line mark text = list_from line text (after_mark mark text)
