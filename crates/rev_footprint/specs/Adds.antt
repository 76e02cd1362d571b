-- What is added to a set of cells.
use Rattle.std.specs.Prelude.{◌≡◌, ◌||◌, List}
use Rattle.rev_causal.specs.Store.{among}
use Rattle.rev_cells.specs.declared.cell.Cell.{Cell}
use Rattle.rev_cells.specs.Keys.{cell_cmp}

-- afterwards it has what it had, and these cells
abbrev pub Adds : List Cell → List Cell → List Cell → Type 0
Adds old new cells = (c : Cell) → among cell_cmp new c ≡ (among cell_cmp old c || among cell_cmp cells c)
