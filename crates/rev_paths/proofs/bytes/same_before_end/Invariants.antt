use Rattle.std.proofs.Common.{length}
use Rattle.rev_paths.proofs.BytesLemmas.{AreLeft}
use Rattle.rev_paths.proofs.bytes.same_before_end.Given as goal

abbrev pub invariant-loop-word : goal.invariant-loop-word
invariant-loop-word l = AreLeft l.a l.b l.rest l.other

abbrev pub decreases-loop-word : goal.decreases-loop-word
decreases-loop-word l = length l.rest
