-- A listing: lines for the cells of a state that are not at their default, in the cells' order.
use Rattle.std.specs.Prelude.{ℕ, Bool, true, false, not, ◌&&◌, List, ◌++◌, codes, filter}
use Rattle.std.specs.List.{flat_map}
use Rattle.std.specs.FinMap as map
use Rattle.rev_cells.specs.declared.cell.Cell.{Cell}
use Rattle.rev_cells.specs.declared.cell.Cell.TheVariants as cell
use Rattle.rev_cells.specs.declared.value.Value.{Value}
use Rattle.rev_cells.specs.State.{State, value_at}
use Rattle.rev_cells.specs.Values.{is_default}
use Rattle.rev_fields.specs.Fields.{line_of}
use Rattle.rev_listing.specs.declared.nondefault_cells.Kinds.{Kinds}
use Rattle.rev_listing.specs.declared.nondefault_cells.Kinds.TheVariants as kinds

-- a line of these fields, with its end
abbrev pub line : List (List ℕ) → List ℕ
line fields = line_of fields ++ codes "\n"

-- whether a cell is not at its default
abbrev pub is_there : State → Cell → Bool
is_there state c = not (is_default (value_at state c))

-- the cells that are not at their default. The cells of a state stand in order: by kind, and then by what they name
abbrev pub cells_there : State → List Cell
cells_there state = filter (is_there state) (map.keys state)

-- what a cell is told as, one after the other
abbrev pub told : (Cell → Value → List ℕ) → State → List Cell → List ℕ
told text state cells = flat_map (λ c. text c (value_at state c)) cells

abbrev pub listed : (Cell → Value → List ℕ) → State → List ℕ
listed text state = told text state (cells_there state)

-- whether a cell is of the kinds that a listing tells: stamps of files; marks, what is held, depths and whether the build
-- was interrupted; or records of the logs
abbrev pub is_of : Kinds → Cell → Bool
is_of kinds.Stamps (cell.Stamp path) = true
is_of kinds.Stamps _ = false
is_of kinds.Marks (cell.Mark edge) = true
is_of kinds.Marks (cell.Job job) = true
is_of kinds.Marks (cell.Slot pool place) = true
is_of kinds.Marks (cell.Depth pool) = true
is_of kinds.Marks cell.Halted = true
is_of kinds.Marks _ = false
is_of kinds.Logs (cell.Built path) = true
is_of kinds.Logs (cell.Deps path) = true
is_of kinds.Logs _ = false

-- whether a cell is of these kinds and not at its default
abbrev pub is_told : Kinds → State → Cell → Bool
is_told k state c = is_of k c && is_there state c

-- the cells of these kinds that are not at their default
abbrev pub cells_told : Kinds → State → List Cell
cells_told k state = filter (is_told k state) (map.keys state)
