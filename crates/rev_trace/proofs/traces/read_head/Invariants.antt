use Rattle.rev_fields.specs.Parts.{slices_of}
use Rattle.rev_trace.specs.Heads.{seen}
use Rattle.rev_trace.proofs.TraceLemmas.{ReadsHead}
use Rattle.rev_trace.proofs.traces.read_head.Given as goal

abbrev pub invariant-loop-place : goal.invariant-loop-place
invariant-loop-place l = ReadsHead l.version (slices_of l.lines) (seen l.head) l.place
