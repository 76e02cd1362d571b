-- The words of a text: what stands between bytes that are no part of a file's name.
use Rattle.std.specs.Prelude.{ℕ, nat_lt, Bool, true, false, not, ◌&&◌, ◌||◌, ◌==◌, List, [], ◌∷◌, Option, Some, None, is_none, bytes_eq, if◌then◌else◌}
use Rattle.std.specs.List.{filter_map}
use Rattle.std.specs.Char.{is_ascii_alphabetic}
use Rattle.rev_paths.specs.Canonical.{canonical, prefixed}
use Rattle.rev_paths.specs.Quoting.{is_safe}
use Rattle.rev_manifest.specs.Names.{path_fault}
use Rattle.rev_named.specs.declared.pieces.Mode.{Mode}
use Rattle.rev_named.specs.declared.pieces.Mode.TheVariants.{Plain, Escape, Sequence, Symbol}

-- a letter, a digit, one of `_ + - . /` or of `@ % ~`, or a byte beyond ASCII
abbrev pub is_name_byte : ℕ → Bool
is_name_byte b = is_safe b || b == 64 || b == 37 || b == 126 || not (nat_lt b 128)

-- a byte that goes on with a character of UTF-8
abbrev pub goes_on : ℕ → Bool
goes_on b = not (nat_lt b 128) && nat_lt b 192

-- HOW A TEXT IS READ
-- Two things end a name though they have bytes of names: a control sequence, as one of colours (ESC, `[`, and what
-- follows up to a letter), and a character from U+2000 to U+2FFF (quotation marks, dashes, arrows, frames), which has
-- the first byte 226.
abbrev pub begun_by : ℕ → Mode
begun_by b = if b == 27 then Escape else if b == 226 then Symbol else Plain

abbrev pub mode_after : Mode → ℕ → Mode
mode_after Plain b = begun_by b
mode_after Escape b = if b == 91 then Sequence else begun_by b
mode_after Sequence b = if is_ascii_alphabetic b then Plain else Sequence
mode_after Symbol b = if goes_on b then Symbol else begun_by b

-- the byte is part of a name
abbrev pub is_part : Mode → ℕ → Bool
is_part Plain b = is_name_byte b && not (b == 226)
is_part Escape b = is_name_byte b && not (b == 226)
is_part Sequence b = false
is_part Symbol b = is_name_byte b && not (b == 226) && not (goes_on b)

-- THE WORDS
-- What stands between bytes that are no part of a name: there is one piece more than such bytes.
abbrev pub pieces_from : Mode → List ℕ → List (List ℕ)
pieces_from mode [] = [] ∷ []
pieces_from mode (b ∷ bs) =
    if is_part mode b then prefixed b (pieces_from (mode_after mode b) bs) else [] ∷ pieces_from (mode_after mode b) bs

abbrev pub pieces : List ℕ → List (List ℕ)
pieces text = pieces_from Plain text

-- a piece without the dots at its end, which end a sentence
abbrev pub are_dots : List ℕ → Bool
are_dots [] = true
are_dots (b ∷ bs) = b == 46 && are_dots bs

abbrev pub undotted : List ℕ → List ℕ
undotted [] = []
undotted (b ∷ bs) = if are_dots (b ∷ bs) then [] else b ∷ undotted bs

-- the canonical path that bytes say: none where they are empty, or longer than a path may be
abbrev pub path_in : List ℕ → Option (List ℕ)
path_in bytes = if is_none (path_fault bytes) then Some (canonical bytes) else None

-- the word of a piece
abbrev pub word_in : List ℕ → Option (List ℕ)
word_in piece = path_in (undotted piece)

-- the words of a text
abbrev pub words : List ℕ → List (List ℕ)
words text = filter_map word_in (pieces text)

-- AS THEY ARE FOUND
-- whether a set has a word, once that of a piece is in it
abbrev pub with_word : Option (List ℕ) → List ℕ → Bool → Bool
with_word None word had = had
with_word (Some new) word had = if bytes_eq new word then true else had
