-- The faults of lines, and what is answered for them. They are those of version 1.
use Rattle.std.specs.Prelude.{◌≡◌, ℕ, Result, Ok, Err}
use Rattle.rev_fields.specs.declared.faults.LineFault.{LineFault as FieldLineFault}
use Rattle.rev_fields.specs.declared.faults.LineFault.TheVariants as of_field
use Rattle.rev_observed.specs.Faults.{fault_at, kind_of}
use Rattle.rev_observed.specs.declared.faults.FaultKind.{FaultKind}
use Rattle.rev_observed.specs.declared.faults.ReadFault.{ReadFault}
use Rattle.rev_observed.specs.declared.faults.ReadFault.TheVariants as text
use Rattle.rev_observation.specs.declared.faults.LineFault.{LineFault}
use Rattle.rev_observation.specs.declared.faults.LineFault.TheVariants.{Memory, Kind}

abbrev pub line_fault : FieldLineFault → LineFault
line_fault of_field.Memory = Memory
line_fault (of_field.Kind kind) = Kind (kind_of kind)

-- what is answered for a text, a line of which at this place is not read
abbrev pub read_fault : ℕ → LineFault → ReadFault
read_fault place Memory = text.Memory
read_fault place (Kind kind) = text.Numbered (fault_at place kind)

-- what is read is what the line says, or memory ran out
abbrev pub Answers : {V T : Type 0} → Result V LineFault → (V → T) → Result T FaultKind → Type 0
Answers (Ok value) view said = said ≡ Ok (view value)
Answers (Err Memory) view said = Unit {0}
Answers (Err (Kind kind)) view said = said ≡ Err kind
