use Rattle.rev_dirty.proofs.SeesLemmas.{reason-cells-decide}
use Rattle.rev_dirty.proofs.laws.reason_cells_decide.Goals as goal

pub returns : goal.returns
returns c = reason-cells-decide
