use Rattle.rev_footprint.proofs.EqualLemmas.{equal-conflict}
use Rattle.rev_footprint.proofs.laws.equal_conflict.Goals as goal

pub returns : goal.returns
returns c = equal-conflict
