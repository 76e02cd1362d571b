-- What holds of the entries in which cells and values are kept, and what they show.
use Rattle.std.specs.Prelude.{List, [], ◌∷◌, IfSome}
use Rattle.std.specs.Ordering.{eq_by_cmp}
use Rattle.std.specs.List.{IsDistinct}
use Rattle.std.specs.Map.{lookup, keys_of}
use Rattle.std.specs.FinMap as map
use Rattle.rev_cells.specs.declared.cell.Cell.{Cell}
use Rattle.rev_cells.specs.declared.value.Value.{Value}
use Rattle.rev_cells.specs.declared.cells.Cells.TheInside.{Inside}
use Rattle.rev_cells.specs.Keys.{cell_cmp}
use Rattle.rev_cells.specs.Values.{Fits}
use Rattle.rev_cells.specs.State.{State, set}
use Rattle.rev_cells.specs.Table.{Table}

-- the state in which each entry's cell holds its value
abbrev pub state_of : List (Cell × Value) → State
state_of [] = map.empty
state_of (e ∷ es) = set (state_of es) e.0 e.1

abbrev pub table_of : Inside → Table
table_of a = record { jobs = a.jobs; state = state_of a.entries.entries; places = keys_of a.entries.entries; writes = a.writes }

-- the value of each entry is of the kind that its cell holds
abbrev pub AllFit : List (Cell × Value) → Type 0
AllFit es = (c : Cell) → IfSome (lookup (eq_by_cmp cell_cmp c) es) (Fits c)

-- no cell has two entries, and the value of each is of its kind
pub record IsSound (a : Inside) : Type 0 where
  pub distinct : IsDistinct (eq_by_cmp cell_cmp) (keys_of a.entries.entries)
  pub fit : AllFit a.entries.entries
