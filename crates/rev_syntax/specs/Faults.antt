-- Answers of a line, of which each is a value or the line's first fault.
use Rattle.std.specs.Prelude.{◌≡◌, ℕ, Bool, List, [], ◌∷◌, Result, Ok, Err, if◌then◌else◌}
use Rattle.rev_syntax.specs.declared.fault.SyntaxKind.{SyntaxKind}
use Rattle.rev_syntax.specs.declared.fault.SyntaxKind.TheVariants.{Syntax, BadEscape}
use Rattle.rev_syntax.specs.declared.fault.SyntaxFault.{SyntaxFault}
use Rattle.rev_syntax.specs.declared.fault.ReadFault.{ReadFault}
use Rattle.rev_syntax.specs.declared.fault.ReadFault.TheVariants.{Memory, Refused}
use Rattle.rev_syntax.specs.Lines.{LineValue}

-- the fault of that kind at a line
abbrev pub fault_at : LineValue → SyntaxKind → SyntaxFault
fault_at line kind = record { kind = kind; line = line.number }

abbrev pub refused : {A : Type 0} → LineValue → SyntaxKind → Result A SyntaxFault
refused line kind = Err (fault_at line kind)

-- an answer that goes on from another: what is further left has the first fault
abbrev pub and_then : {A B E : Type 0} → Result A E → (A → Result B E) → Result B E
and_then (Ok value) next = next value
and_then (Err fault) next = Err fault

-- where a line ends and more is needed: a `$` alone at the end of the file is the fault there
abbrev pub end_kind : Bool → SyntaxKind
end_kind ended = if ended then Syntax else BadEscape

-- a line that is read to its end
abbrev pub finished : {A : Type 0} → LineValue → A → Result A SyntaxFault
finished line value = if line.ended then Ok value else refused line BadEscape

-- the fault of a line that needs something else than what is left of it: nothing, or a byte that cannot stand there
abbrev pub stuck_kind : Bool → List ℕ → SyntaxKind
stuck_kind ended [] = end_kind ended
stuck_kind ended (b ∷ bs) = Syntax

abbrev pub stuck : {A : Type 0} → LineValue → List ℕ → Result A SyntaxFault
stuck line text = refused line (stuck_kind line.ended text)

-- a line of which nothing is left
abbrev pub closed : LineValue → List ℕ → Result (Unit {0}) SyntaxFault
closed line [] = finished line tt
closed line (b ∷ bs) = refused line Syntax

-- what an answer that is no value says of what is meant: Memory nothing, a fault that it is meant
abbrev pub IsFault : {A : Type 0} → ReadFault → Result A SyntaxFault → Type 0
IsFault Memory meant = Unit {0}
IsFault (Refused fault) meant = meant ≡ Err fault
