-- The faults of lines, and what is answered for them.
use Rattle.std.specs.Prelude.{◌≡◌, ℕ, ◌+◌, Result, Ok, Err}
use Rattle.rev_fields.specs.declared.faults.FaultKind.{FaultKind as FieldFault}
use Rattle.rev_fields.specs.declared.faults.FaultKind.TheVariants as field
use Rattle.rev_fields.specs.declared.faults.LineFault.{LineFault as FieldLineFault}
use Rattle.rev_fields.specs.declared.faults.LineFault.TheVariants as of_field
use Rattle.rev_observed.specs.declared.faults.Fault.{Fault}
use Rattle.rev_observed.specs.declared.faults.FaultKind.{FaultKind}
use Rattle.rev_observed.specs.declared.faults.FaultKind.TheVariants.{Header, Syntax, Number, Range, Double}
use Rattle.rev_observed.specs.declared.faults.LineFault.{LineFault}
use Rattle.rev_observed.specs.declared.faults.LineFault.TheVariants.{Memory, Kind}
use Rattle.rev_observed.specs.declared.faults.ReadFault.{ReadFault}
use Rattle.rev_observed.specs.declared.faults.ReadFault.TheVariants as text

-- the number of a fault
abbrev pub code_of : FaultKind → ℕ
code_of Header = 104
code_of Syntax = 100
code_of Number = 101
code_of Range = 105
code_of Double = 103

-- what the fault of a field is here: a field that is to be a number, or one that is no text, or no path
abbrev pub kind_of : FieldFault → FaultKind
kind_of field.Syntax = Syntax
kind_of field.Number = Number
kind_of field.Lane = Syntax
kind_of field.DoubleRecord = Syntax
kind_of field.Header = Syntax

abbrev pub line_fault : FieldLineFault → LineFault
line_fault of_field.Memory = Memory
line_fault (of_field.Kind kind) = Kind (kind_of kind)

-- what a field says, with its fault as it is here
abbrev pub of_fields : {T : Type 0} → Result T FieldFault → Result T FaultKind
of_fields (Ok said) = Ok said
of_fields (Err kind) = Err (kind_of kind)

-- a part of a line, and then what is made of it: the first fault of the two counts
infixl 10 ◌>>=◌
abbrev pub ◌>>=◌ : {A B : Type 0} → Result A FaultKind → (A → Result B FaultKind) → Result B FaultKind
Ok a >>= f = f a
Err kind >>= f = Err kind

-- the fault of a text at a place, where places count from 0 and lines from 1
abbrev pub fault_at : ℕ → FaultKind → Fault
fault_at place kind = record { kind = kind; line = place + 1 }

-- what is answered for a text, a line of which at this place is not read
abbrev pub read_fault : ℕ → LineFault → ReadFault
read_fault place Memory = text.Memory
read_fault place (Kind kind) = text.Numbered (fault_at place kind)

-- what is read is what the line says, or memory ran out
abbrev pub Answers : {V T : Type 0} → Result V LineFault → (V → T) → Result T FaultKind → Type 0
Answers (Ok value) view said = said ≡ Ok (view value)
Answers (Err Memory) view said = Unit {0}
Answers (Err (Kind kind)) view said = said ≡ Err kind
