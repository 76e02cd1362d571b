use Rattle.rev_conflicts.proofs.RaceLemmas.{races-are-conflicts}
use Rattle.rev_conflicts.proofs.laws.races_are_conflicts.Goals as goal

pub returns : goal.returns
returns c = races-are-conflicts
