use Rattle.rev_history.proofs.Promises as promises
use Rattle.rev_history.proofs.laws.nearest_is_named.Goals as goal

pub returns : goal.returns
returns c = promises.nearest_is_named
