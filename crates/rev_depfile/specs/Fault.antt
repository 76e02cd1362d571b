-- The numbers of the faults of a depfile, and where they stand.
use Rattle.std.specs.Prelude.{ℕ, Option, Some, None}
use Rattle.rev_depfile.specs.declared.fault.DepfileFault.{DepfileFault}
use Rattle.rev_depfile.specs.declared.fault.DepfileFault.TheVariants.{Memory, NoColon, OtherTarget, LongPath}

-- the number of a fault, which `Memory` lacks
abbrev pub code_of : DepfileFault → Option ℕ
code_of Memory = None
code_of (NoColon at) = Some 30
code_of (OtherTarget at) = Some 31
code_of (LongPath at) = Some 32

-- the offset of a fault in the text, which `Memory` lacks
abbrev pub offset_of : DepfileFault → Option ℕ
offset_of Memory = None
offset_of (NoColon at) = Some at
offset_of (OtherTarget at) = Some at
offset_of (LongPath at) = Some at
