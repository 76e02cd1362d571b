-- The numbers of faults.
use Rattle.std.specs.Prelude.{ℕ, Option, Some, None}
use Rattle.rev_cells.specs.declared.fault.OpeningFault.{OpeningFault}
use Rattle.rev_cells.specs.declared.fault.OpeningFault.TheVariants.{Memory, BadJobs, DoubleRecord}

-- the number of a fault, which `Memory` lacks
abbrev pub code_of : OpeningFault → Option ℕ
code_of Memory = None
code_of BadJobs = Some 90
code_of DoubleRecord = Some 103
