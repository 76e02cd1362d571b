use Rattle.rev_history.proofs.Promises as promises
use Rattle.rev_history.proofs.laws.undo_keeps_footprints.Goals as goal

pub returns : goal.returns
returns c = promises.undo_keeps_footprints
