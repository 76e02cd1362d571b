-- Cells as they are looked up.
use Rattle.rev_cells.specs.declared.cell.Cell.{Cell}
use Rattle.rev_cells.specs.declared.cell.Cell.TheVariants as cell
use Rattle.rev_cells.specs.declared.asked.Asked.{Asked}
use Rattle.rev_cells.specs.declared.asked.Asked.TheVariants as asked

-- the cell that is asked for
abbrev pub asked_cell : Asked → Cell
asked_cell (asked.Stamp path) = cell.Stamp path.now
asked_cell (asked.Mark edge) = cell.Mark edge
asked_cell (asked.Job job) = cell.Job job
asked_cell (asked.Slot pool place) = cell.Slot pool place
asked_cell (asked.Depth pool) = cell.Depth pool
asked_cell (asked.Built path) = cell.Built path.now
asked_cell (asked.Deps path) = cell.Deps path.now
asked_cell asked.Halted = cell.Halted
