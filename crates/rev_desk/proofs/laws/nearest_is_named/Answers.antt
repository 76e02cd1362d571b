use Rattle.rev_desk.proofs.Promises as promises
use Rattle.rev_desk.proofs.laws.nearest_is_named.Goals as goal

pub returns : goal.returns
returns c = promises.nearest_is_named
