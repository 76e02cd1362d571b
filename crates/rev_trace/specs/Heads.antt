-- What the code keeps of the opening lines that it has read.
use Rattle.std.specs.Prelude.{◌≡◌, List, ℕ, None, Ok}
use Rattle.rev_cells.specs.declared.fault.OpeningFault.{OpeningFault}
use Rattle.rev_cells.specs.declared.fault.OpeningFault.TheVariants as opening
use Rattle.rev_fields.specs.declared.faults.FaultKind.TheVariants.{Number, DoubleRecord}
use Rattle.rev_fields.specs.declared.faults.LineFault.{LineFault}
use Rattle.rev_fields.specs.declared.faults.LineFault.TheVariants.{Memory, Kind}
use Rattle.rev_trace.specs.declared.head.Head.{Head}
use Rattle.rev_trace.specs.declared.record.Record.{Record}
use Rattle.rev_trace.specs.Records.{HeadValue, head_with, opening_wrong, record_line}

-- what the kept parts are
abbrev pub seen : Head → HeadValue
seen h = record { opening = h.opening; targets = h.targets.items; has_jobs = h.has_jobs }

-- what is answered for a line whose record is refused
abbrev pub record_fault : OpeningFault → LineFault
record_fault opening.Memory = Memory
record_fault opening.BadJobs = Kind Number
record_fault opening.DoubleRecord = Kind DoubleRecord

-- a head to which a line has added the record that it is
pub record IsAdded (old : HeadValue) (line : List ℕ) (new : HeadValue) : Type 0 where
  pub added : Record
  pub said_is : record_line line ≡ Ok added
  pub sound : opening_wrong old line ≡ None
  pub new_is : new ≡ head_with old added
