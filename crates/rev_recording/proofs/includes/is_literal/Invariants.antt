use Rattle.std.proofs.Common.{length}
use Rattle.rev_recording.proofs.includes.is_literal.Given as goal

abbrev pub decreases-loop-piece : goal.decreases-loop-piece
decreases-loop-piece l = length l.rest
