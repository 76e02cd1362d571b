use Rattle.rev_history.proofs.Promises as promises
use Rattle.rev_history.proofs.laws.overtaking_is_named.Goals as goal

pub returns : goal.returns
returns c = promises.overtaking_is_named
