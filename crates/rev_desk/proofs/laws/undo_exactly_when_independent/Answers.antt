use Rattle.rev_desk.proofs.Promises as promises
use Rattle.rev_desk.proofs.laws.undo_exactly_when_independent.Goals as goal

pub returns : goal.returns
returns c = promises.undo_exactly_when_independent
