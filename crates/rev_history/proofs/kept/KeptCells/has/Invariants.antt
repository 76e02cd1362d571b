use Rattle.std.proofs.Common.{◌≡◌, false, take}
use Rattle.rev_causal.specs.Store.{among}
use Rattle.rev_cells.specs.Keys.{cell_cmp}
use Rattle.rev_history.proofs.kept.KeptCells.has.Given as goal

abbrev pub invariant-loop-index : goal.invariant-loop-index
invariant-loop-index l = among cell_cmp (take l.index l.self) l.cell ≡ false
