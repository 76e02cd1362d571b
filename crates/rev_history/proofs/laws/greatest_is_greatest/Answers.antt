use Rattle.rev_history.proofs.Promises as promises
use Rattle.rev_history.proofs.laws.greatest_is_greatest.Goals as goal

pub returns : goal.returns
returns c = promises.greatest_is_greatest
