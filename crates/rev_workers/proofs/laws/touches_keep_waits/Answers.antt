use Rattle.rev_workers.proofs.Touches.{touch-kept}
use Rattle.rev_workers.proofs.laws.touches_keep_waits.Goals as goal

pub returns : goal.returns
returns c = touch-kept
