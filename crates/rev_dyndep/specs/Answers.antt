-- Answers, of which each is a value or the first fault.
use Rattle.std.specs.Prelude.{◌≡◌, ℕ, List, ◌∷◌, ◌++◌, Result, Ok, Err}
pub use Rattle.rev_syntax.specs.Faults.{and_then}
use Rattle.rev_syntax.specs.Statements.{StatementValue}
use Rattle.rev_syntax.specs.declared.fault.SyntaxKind.{SyntaxKind}
use Rattle.rev_syntax.specs.declared.fault.SyntaxKind.TheVariants as syntax
use Rattle.rev_syntax.specs.declared.fault.SyntaxFault.{SyntaxFault}
use Rattle.rev_dyndep.specs.declared.fault.DyndepKind.{DyndepKind}
use Rattle.rev_dyndep.specs.declared.fault.DyndepKind.TheVariants.{Syntax, Tab, BadEscape}
use Rattle.rev_dyndep.specs.declared.fault.DyndepFault.{DyndepFault}
use Rattle.rev_dyndep.specs.declared.fault.ReadFault.{ReadFault}
use Rattle.rev_dyndep.specs.declared.fault.ReadFault.TheVariants.{Memory, Refused}

-- the fault of that kind at a line
abbrev pub fault_at : ℕ → DyndepKind → DyndepFault
fault_at line kind = record { kind = kind; line = line }

abbrev pub refused : {A : Type 0} → ℕ → DyndepKind → Result A DyndepFault
refused line kind = Err (fault_at line kind)

-- a fault of the syntax
abbrev pub syntax_kind : SyntaxKind → DyndepKind
syntax_kind syntax.Syntax = Syntax
syntax_kind syntax.Tab = Tab
syntax_kind syntax.BadEscape = BadEscape

abbrev pub of_syntax : SyntaxFault → DyndepFault
of_syntax fault = fault_at fault.line (syntax_kind fault.kind)

-- what an answer that is no value says of what is meant: Memory nothing, a fault that it is meant
abbrev pub IsFault : {A : Type 0} → ReadFault → Result A DyndepFault → Type 0
IsFault Memory meant = Unit {0}
IsFault (Refused fault) meant = meant ≡ Err fault

-- a fault is that of the first of the statements meant; Memory says nothing of them
abbrev pub IsNoStatement : ReadFault → List (Result StatementValue SyntaxFault) → Type 0
IsNoStatement Memory meant = Unit {0}
IsNoStatement (Refused fault) meant =
    (first : SyntaxFault) × (others : List (Result StatementValue SyntaxFault)) × (meant ≡ Err first ∷ others) × (fault ≡ of_syntax first)

-- elements before those of an answer
abbrev pub onto : {A : Type 0} → List A → Result (List A) DyndepFault → Result (List A) DyndepFault
onto first (Ok others) = Ok (first ++ others)
onto first (Err fault) = Err fault
