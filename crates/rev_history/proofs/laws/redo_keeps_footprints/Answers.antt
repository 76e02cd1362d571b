use Rattle.rev_history.proofs.Promises as promises
use Rattle.rev_history.proofs.laws.redo_keeps_footprints.Goals as goal

pub returns : goal.returns
returns c = promises.redo_keeps_footprints
