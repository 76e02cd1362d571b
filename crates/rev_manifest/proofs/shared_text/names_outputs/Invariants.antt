use Rattle.std.proofs.Common.{length}
use Rattle.rev_manifest.proofs.shared_text.names_outputs.Given as goal

abbrev pub decreases-loop-piece : goal.decreases-loop-piece
decreases-loop-piece l = length l.rest
