use Rattle.rev_history.proofs.Promises as promises
use Rattle.rev_history.proofs.laws.step_back.Goals as goal

pub returns : goal.returns
returns c = promises.step_back
