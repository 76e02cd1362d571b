use Rattle.rev_fields.specs.Parts.{slices_of}
use Rattle.rev_trace.specs.Lists.{shown}
use Rattle.rev_trace.proofs.LaneLemmas.{ReadsLanes}
use Rattle.rev_trace.proofs.traces.read_lanes.Given as goal

abbrev pub invariant-loop-place : goal.invariant-loop-place
invariant-loop-place l = ReadsLanes l.version l.targets (slices_of l.lines) (shown l.lanes) l.place
