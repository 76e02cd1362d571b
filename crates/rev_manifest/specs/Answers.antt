-- Answers, of which each is a value or the first fault.
use Rattle.std.specs.Prelude.{◌≡◌, ℕ, List, ◌++◌, Option, Some, None, Result, Ok, Err}
pub use Rattle.rev_syntax.specs.Faults.{and_then}
use Rattle.rev_syntax.specs.declared.fault.SyntaxKind.{SyntaxKind}
use Rattle.rev_syntax.specs.declared.fault.SyntaxKind.TheVariants as syntax
use Rattle.rev_syntax.specs.declared.fault.SyntaxFault.{SyntaxFault}
use Rattle.rev_manifest.specs.declared.fault.FaultKind.{FaultKind}
use Rattle.rev_manifest.specs.declared.fault.FaultKind.TheVariants.{Syntax, Tab, BadEscape}
use Rattle.rev_manifest.specs.declared.fault.ManifestFault.{ManifestFault}
use Rattle.rev_manifest.specs.declared.fault.ReadFault.{ReadFault}
use Rattle.rev_manifest.specs.declared.fault.ReadFault.TheVariants.{Memory, Manifest}
use Rattle.rev_manifest.specs.declared.fault.Place.{Place}

-- a fault of that kind at a place: a file, by its place among those given, and a line
abbrev pub fault_at : Place → FaultKind → ManifestFault
fault_at place kind = record { kind = kind; file = place.file; line = place.line }

abbrev pub refused : {A : Type 0} → Place → FaultKind → Result A ManifestFault
refused place kind = Err (fault_at place kind)

-- a value that is refused where there is a fault
abbrev pub unless : {A : Type 0} → Place → Option FaultKind → A → Result A ManifestFault
unless place None value = Ok value
unless place (Some kind) value = refused place kind

-- an answer that goes on where there is no fault
abbrev pub unless_then : {A : Type 0} → Place → Option FaultKind → Result A ManifestFault → Result A ManifestFault
unless_then place None next = next
unless_then place (Some kind) next = refused place kind

-- a fault of the syntax
abbrev pub syntax_kind : SyntaxKind → FaultKind
syntax_kind syntax.Syntax = Syntax
syntax_kind syntax.Tab = Tab
syntax_kind syntax.BadEscape = BadEscape

-- what stands in a file, by the file's place
abbrev pub in_file : {A : Type 0} → ℕ → Result A SyntaxFault → Result A ManifestFault
in_file file (Ok value) = Ok value
in_file file (Err fault) = refused (record { file = file; line = fault.line }) (syntax_kind fault.kind)

-- what an answer that is no value says of what is meant: Memory nothing, a fault that it is meant
abbrev pub IsFault : {A : Type 0} → ReadFault → Result A ManifestFault → Type 0
IsFault Memory meant = Unit {0}
IsFault (Manifest fault) meant = meant ≡ Err fault

-- elements before those of an answer
abbrev pub onto_list : {A : Type 0} → List A → Result (List A) ManifestFault → Result (List A) ManifestFault
onto_list first (Ok others) = Ok (first ++ others)
onto_list first (Err fault) = Err fault
