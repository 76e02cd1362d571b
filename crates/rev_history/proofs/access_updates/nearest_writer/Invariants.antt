use Rattle.std.proofs.Common.{◌≡◌, drop}
use Rattle.rev_accesses.specs.Value.{Prints, Shows}
use Rattle.rev_causal.specs.AccessLists.{lesser, nearest_writer}
use Rattle.rev_cells.specs.Keys.{cell_cmp}
use Rattle.rev_history.specs.Named.{AreNamed, CellPrints}
use Rattle.rev_history.proofs.access_updates.nearest_writer.Given as goal

-- the least so far, and that of the cells that are left
abbrev pub invariant-loop-cell : goal.invariant-loop-cell
invariant-loop-cell l =
    (prints : Prints) (named : CellPrints) → Shows l.accesses prints → AreNamed l.cells.places prints named
    → lesser l.least (nearest_writer cell_cmp l.number (drop l.cell-index l.read) named) ≡ nearest_writer cell_cmp l.number l.read named
