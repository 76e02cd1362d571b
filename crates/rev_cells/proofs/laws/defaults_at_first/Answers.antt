use Rattle.std.proofs.Common.{ap}
use Rattle.std.specs.FinMap as map
use Rattle.rev_cells.specs.Keys.{cell_cmp}
use Rattle.rev_cells.specs.State.{default_or}
use Rattle.rev_cells.proofs.laws.defaults_at_first.Goals as goal

pub returns : goal.returns
returns c = λ k. ap (default_or k) (map.get-empty cell_cmp k)
