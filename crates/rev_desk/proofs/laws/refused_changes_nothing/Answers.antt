use Rattle.rev_desk.proofs.Promises as promises
use Rattle.rev_desk.proofs.laws.refused_changes_nothing.Goals as goal

pub returns : goal.returns
returns c = promises.refused_changes_nothing
