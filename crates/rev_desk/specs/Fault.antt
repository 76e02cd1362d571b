-- The numbers of faults.
use Rattle.std.specs.Prelude.{ℕ, Option, Some, None}
use Rattle.rev_desk.specs.declared.fault.DeskFault.{DeskFault}
use Rattle.rev_desk.specs.declared.fault.DeskFault.TheVariants as fault
use Rattle.rev_desk.specs.declared.fault.Why.{Why}
use Rattle.rev_desk.specs.declared.fault.Why.TheVariants as why

-- the number of a fault; `Memory` has none
abbrev pub code_of : DeskFault → Option ℕ
code_of fault.Memory = None
code_of fault.BadLanes = Some 91

-- the number of what kept a command from an entry; `Memory` has none
abbrev pub why_code : Why → Option ℕ
why_code why.Memory = None
why_code why.JournalFull = Some 94
