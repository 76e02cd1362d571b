-- The cells of a footprint in one list.
use Rattle.std.specs.Prelude.{not, List}
use Rattle.std.specs.List.{filter}
use Rattle.rev_causal.specs.Store.{among}
use Rattle.rev_cells.specs.declared.cell.Cell.{Cell}
use Rattle.rev_cells.specs.Keys.{cell_cmp}

-- those of some cells that are not named, in their order
abbrev pub others_than : List Cell → List Cell → List Cell
others_than named cells = filter (λ c. not (among cell_cmp named c)) cells
