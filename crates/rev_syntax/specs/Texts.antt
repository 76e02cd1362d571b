-- The texts of the grammar: what their bytes stand for.
use Rattle.std.specs.Prelude.{ℕ, zero, suc, ◌+◌, Bool, not, ◌||◌, ◌==◌, List, [], ◌∷◌, length, Option, Some, None, if◌then◌else◌}
use Rattle.std.specs.List.{take_while}
use Rattle.rev_syntax.specs.declared.fault.SyntaxKind.{SyntaxKind}
use Rattle.rev_syntax.specs.declared.fault.SyntaxKind.TheVariants.{Syntax, BadEscape}
use Rattle.rev_syntax.specs.Bytes.{is_in_name, is_in_bare_name, after, is_empty, begins_with}

-- a piece of a text: a byte that stands for itself, or the variable of a name
pub data PieceValue : Type 0 where
  Byte : ℕ → PieceValue
  Variable : List ℕ → PieceValue

-- NUL and CR stand in no text
abbrev pub is_no_text : ℕ → Bool
is_no_text b = b == 0 || b == 13

-- the bytes that stand for themselves after a `$`: the `$`, the space and the colon
abbrev pub is_escaped : ℕ → Bool
is_escaped b = b == 36 || b == 32 || b == 58

-- what a `$` says with the bytes after it, and how many of them it takes along
pub record EscapeValue : Type 0 where
  pub piece : PieceValue
  pub taken : ℕ

-- `$name`: the whole run of letters, digits, `_` and `-`, of which there is at least one
abbrev pub bare : List ℕ → Option EscapeValue
bare name = if is_empty name then None else Some (record { piece = Variable name; taken = length name })

-- `${name}`, from the name on and from what follows its bytes, dots among them
abbrev pub braced : List ℕ → List ℕ → Option EscapeValue
braced name rest =
    if is_empty name || not (begins_with 125 rest) then None
    else Some (record { piece = Variable name; taken = length name + 2 })

-- what a `$` before these bytes says: nothing where it can stand before none of them
abbrev pub escape_of : List ℕ → Option EscapeValue
escape_of [] = None
escape_of (b ∷ bs) =
    if is_escaped b then Some (record { piece = Byte b; taken = 1 })
    else (if b == 123 then braced (take_while is_in_name bs) (after is_in_name bs)
    else bare (take_while is_in_bare_name (b ∷ bs)))

abbrev pub fault_after : Option EscapeValue → (ℕ → Option SyntaxKind) → Option SyntaxKind
fault_after None others = Some BadEscape
fault_after (Some escape) others = others escape.taken

-- the first fault of a text: a `$` that can stand before nothing that follows it, or a byte that stands in no text.
-- The number says how many bytes at the front a `$` has taken along.
abbrev pub text_fault : ℕ → List ℕ → Option SyntaxKind
text_fault taken [] = None
text_fault (suc taken) (b ∷ bs) = text_fault taken bs
text_fault zero (b ∷ bs) =
    if b == 36 then fault_after (escape_of bs) (λ taken. text_fault taken bs)
    else (if is_no_text b then Some Syntax else text_fault 0 bs)

abbrev pub pieces_after : Option EscapeValue → (ℕ → List PieceValue) → List PieceValue
pieces_after None others = []
pieces_after (Some escape) others = escape.piece ∷ others escape.taken

-- the pieces of a text that has no fault, likewise
abbrev pub pieces_from : ℕ → List ℕ → List PieceValue
pieces_from taken [] = []
pieces_from (suc taken) (b ∷ bs) = pieces_from taken bs
pieces_from zero (b ∷ bs) =
    if b == 36 then pieces_after (escape_of bs) (λ taken. pieces_from taken bs) else Byte b ∷ pieces_from 0 bs

abbrev pub fault_of : List ℕ → Option SyntaxKind
fault_of raw = text_fault 0 raw

abbrev pub pieces_of : List ℕ → List PieceValue
pieces_of raw = pieces_from 0 raw
