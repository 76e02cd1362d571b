use Rattle.rev_desk.proofs.Promises as promises
use Rattle.rev_desk.proofs.laws.redo_next_restores.Goals as goal

pub returns : goal.returns
returns c = promises.redo_next_restores
