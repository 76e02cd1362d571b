-- Cells that hold the same.
use Rattle.std.specs.Prelude.{◌≡◌, Bool, true, ◌&&◌, List, [], ◌∷◌, Option, Some, None}
use Rattle.std.specs.Map.{lookup, keys_of}
use Rattle.rev_cells.specs.declared.cell.Cell.{Cell}
use Rattle.rev_cells.specs.declared.value.Value.{Value}
use Rattle.rev_cells.specs.contracts.value.ValuePartialEq.TheImpl as same
use Rattle.rev_cells.specs.Same.{cell_eq}
use Rattle.rev_cells.specs.Table.{Records}
use Rattle.rev_cells.specs.Values.{is_default}

-- Two openings are the same: as many jobs, and one state. The order of the records, and whether one that is a default
-- was given, may be others.
pub record IsSameOpening (r s : Records) : Type 0 where
  pub jobs : s.jobs ≡ r.jobs
  pub state : s.state ≡ r.state

abbrev pub value_eq : Value → Value → Bool
value_eq = same.ghosts.eq

-- whether what two entries of a cell hold is one, where none holds the default
abbrev pub same_held : Option Value → Option Value → Bool
same_held None None = true
same_held None (Some w) = is_default w
same_held (Some v) None = is_default v
same_held (Some v) (Some w) = value_eq v w

-- whether each of some cells holds the same in two lists of entries
abbrev pub same_at : List Cell → List (Cell × Value) → List (Cell × Value) → Bool
same_at [] es fs = true
same_at (c ∷ cs) es fs = same_held (lookup (cell_eq c) es) (lookup (cell_eq c) fs) && same_at cs es fs

-- whether the cells of both hold the same
abbrev pub same_entries : List (Cell × Value) → List (Cell × Value) → Bool
same_entries es fs = same_at (keys_of es) es fs && same_at (keys_of fs) es fs
