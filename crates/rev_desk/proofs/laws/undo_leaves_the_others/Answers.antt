use Rattle.rev_desk.proofs.Promises as promises
use Rattle.rev_desk.proofs.laws.undo_leaves_the_others.Goals as goal

pub returns : goal.returns
returns c = promises.undo_leaves_the_others
