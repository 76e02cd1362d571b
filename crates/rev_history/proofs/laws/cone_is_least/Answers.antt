use Rattle.rev_history.proofs.Promises as promises
use Rattle.rev_history.proofs.laws.cone_is_least.Goals as goal

pub returns : goal.returns
returns c = promises.cone_is_least
