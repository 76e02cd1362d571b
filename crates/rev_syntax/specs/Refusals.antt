-- Why texts and statements are refused.
use Rattle.std.specs.Prelude.{◌≡◌, ℕ, ◌↔◌, true, List, [], ◌∷◌, ◌++◌, Some, Err}
use Rattle.rev_syntax.specs.declared.fault.SyntaxFault.{SyntaxFault}
use Rattle.rev_syntax.specs.declared.fault.SyntaxKind.{SyntaxKind}
use Rattle.rev_syntax.specs.declared.fault.SyntaxKind.TheVariants.{Syntax, BadEscape}
use Rattle.rev_syntax.specs.Forms.{AreIndented, IsStatement}
use Rattle.rev_syntax.specs.Grammar.{ReadsAs}
use Rattle.rev_syntax.specs.Statements.{StatementValue, Group, statement_of}
use Rattle.rev_syntax.specs.Texts.{PieceValue, is_no_text, fault_of}

-- A text cannot go on with these bytes: NUL or CR stands there, or a `$` that makes a piece with none of the bytes
-- behind it.
pub data StopsAt : SyntaxKind → List ℕ → Type 0 where
  NoText : {b : ℕ} {rest : List ℕ} → is_no_text b ≡ true → StopsAt Syntax (b ∷ rest)
  NoEscape : {rest : List ℕ}
      → ((front behind : List ℕ) (piece : PieceValue) → front ++ behind ≡ 36 ∷ rest → ReadsAs front (piece ∷ []) → ⊥)
      → StopsAt BadEscape (36 ∷ rest)

-- The place of a text's fault: what stands before it reads, and with what stands there the text cannot go on.
pub record IsPlace (kind : SyntaxKind) (raw : List ℕ) : Type 0 where
  pub front : List ℕ
  pub rest : List ℕ
  pub pieces : List PieceValue
  pub whole : front ++ rest ≡ raw
  pub reads : ReadsAs front pieces
  pub stops : StopsAt kind rest

-- a text has the fault of that place
abbrev pub TextsStopThere : Type 0
TextsStopThere = (kind : SyntaxKind) (raw : List ℕ) → (fault_of raw ≡ Some kind) ↔ IsPlace kind raw

-- a line with the indented lines under it has a fault exactly where they are none of the forms
abbrev pub OnlyFormsAreRead : Type 0
OnlyFormsAreRead =
    (group : Group) → AreIndented group.block
    → ((fault : SyntaxFault) × (statement_of group ≡ Err fault))
    ↔ ((statement : StatementValue) → IsStatement group statement → ⊥)
