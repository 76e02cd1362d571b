-- Whether and why one kept event depends on another.
use Rattle.std.specs.Prelude.{ℕ, nat_lt, Bool, false, ◌&&◌, Option, Some, None, find, if◌then◌else◌}
use Rattle.std.specs.FinSet as cells
use Rattle.std.specs.Option.{option_or}
use Rattle.rev_causal.specs.Store.{Footprint.Cells, conflict, is_accessed}
use Rattle.rev_cells.specs.declared.cell.Cell.{Cell}
use Rattle.rev_cells.specs.Keys.{cell_cmp}
use Rattle.rev_footprint.specs.Value.{FootprintValue, print_of}
use Rattle.rev_history.specs.Timeline.{Timeline, kept_footprint}

-- the footprint names the cell, as read or written
abbrev pub is_accessed_by : FootprintValue → Cell → Bool
is_accessed_by f c = is_accessed cell_cmp (Cells (cells.items f.reads) f.writes) c

-- of the cells that the first one writes the first that the other accesses; else of those that the other writes
abbrev pub first_cell : FootprintValue → FootprintValue → Option Cell
first_cell f g = option_or (find (is_accessed_by g) f.writes) (find (is_accessed_by f) g.writes)

-- where both are there
abbrev pub cell_between : Option FootprintValue → Option FootprintValue → Option Cell
cell_between (Some f) (Some g) = first_cell f g
cell_between _ _ = None

abbrev pub holds_between : (FootprintValue → FootprintValue → Bool)
    → Option FootprintValue → Option FootprintValue → Bool
holds_between test (Some f) (Some g) = test f g
holds_between test _ _ = false

-- the event of a later kept number conflicts with that of an earlier one, each with the footprint of its place
abbrev pub depends_on : Timeline → ℕ → ℕ → Bool
depends_on t one other =
    nat_lt one other
    && holds_between (λ f g. conflict cell_cmp (print_of f) (print_of g))
    (kept_footprint t one) (kept_footprint t other)

-- the first cell by which it does
abbrev pub dependence_of : Timeline → ℕ → ℕ → Option Cell
dependence_of t one other =
    if nat_lt one other then cell_between (kept_footprint t one) (kept_footprint t other) else None
