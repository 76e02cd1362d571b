use Rattle.rev_footprint.proofs.HeldRuns.{runs-hold-exactly}
use Rattle.rev_footprint.proofs.laws.runs_hold_exactly.Goals as goal

pub returns : goal.returns
returns c = runs-hold-exactly
