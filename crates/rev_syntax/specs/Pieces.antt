-- What the pieces of the code stand for.
use Rattle.std.specs.Prelude.{◌≡◌, ℕ, List, [], ◌∷◌, map, drop, Option, None, Some}
use Rattle.rev_syntax.specs.declared.text.Piece.{Piece}
use Rattle.rev_syntax.specs.declared.text.Piece.TheVariants as code
use Rattle.std.specs.Borrow.{Bor}
use Rattle.rev_syntax.specs.Texts.{PieceValue, EscapeValue, Byte, Variable}

-- the pieces that one of the code's stands for: each byte of a run by itself, or the variable
abbrev pub seen_piece : Piece → List PieceValue
seen_piece (code.Literal bytes) = map Byte bytes.now
seen_piece (code.Variable name) = Variable name.now ∷ []

-- a piece and what follows it are what an escape before these bytes says
abbrev pub IsEscape : Option EscapeValue → List ℕ → Option (Piece × Bor (List ℕ)) → Type 0
IsEscape None rest None = Unit {0}
IsEscape None rest (Some found) = ⊥
IsEscape (Some escape) rest None = ⊥
IsEscape (Some escape) rest (Some found) =
    (seen_piece found.0 ≡ escape.piece ∷ []) × (found.1.now ≡ drop escape.taken rest)
