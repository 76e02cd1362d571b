-- What is told of one path or edge: what the listings of all tell where nothing else is there.
use Rattle.std.specs.Prelude.{List, [], ◌∷◌, map}
use Rattle.std.specs.FinMap as state
use Rattle.rev_cells.specs.declared.cell.Cell.{Cell}
use Rattle.rev_cells.specs.Effects.{set_all}
use Rattle.rev_cells.specs.State.{State, value_at}

-- a state in which these cells hold what they hold in another, and each other cell is at its default
abbrev pub only : State → List Cell → State
only s cells = set_all state.empty (map (λ c. (c, value_at s c)) cells)
