use Rattle.rev_held.proofs.NameLemmas.{cells-are-named}
use Rattle.rev_held.proofs.laws.cells_are_named.Goals as goal

pub returns : goal.returns
returns c = cells-are-named
