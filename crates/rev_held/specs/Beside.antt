-- What a kept event holds by cells other than those of jobs and slots.
use Rattle.std.specs.Prelude.{ℕ, nat_lt, Bool, true, false, not, List, [], ◌∷◌, filter, is_some, if◌then◌else◌}
use Rattle.rev_causal.specs.Order.{cone}
use Rattle.rev_causal.specs.Store.{Footprint, Footprint.Whole, Footprint.Cells, conflict}
use Rattle.rev_cells.specs.declared.cell.Cell.{Cell}
use Rattle.rev_cells.specs.declared.cell.Cell.TheVariants as cell
use Rattle.rev_cells.specs.Keys.{cell_cmp}
use Rattle.rev_footprint.specs.Value.{print_of}
use Rattle.rev_history.specs.Timeline.{Timeline, kept_footprint}
use Rattle.rev_held.specs.Dependence.{holds_between}

-- the cell is that of a job or of a slot
abbrev pub is_place : Cell → Bool
is_place (cell.Job job) = true
is_place (cell.Slot pool place) = true
is_place _ = false

abbrev pub is_beside : Cell → Bool
is_beside c = not (is_place c)

-- a footprint without these cells
abbrev pub beside_places : Footprint Cell → Footprint Cell
beside_places Whole = Whole
beside_places (Cells reads writes) = Cells (filter is_beside reads) (filter is_beside writes)

-- the events of two kept numbers conflict by other cells
abbrev pub clash_beside : Timeline → ℕ → ℕ → Bool
clash_beside t a b =
    holds_between (λ f g. conflict cell_cmp (beside_places (print_of f)) (beside_places (print_of g)))
    (kept_footprint t a) (kept_footprint t b)

-- a kept number and each later one whose event conflicts with a member by other cells
abbrev pub held_beside : Timeline → ℕ → List ℕ
held_beside t n =
    if is_some (kept_footprint t n)
    then n ∷ cone (clash_beside t) (n ∷ []) (filter (λ k. nat_lt n k) t.kept)
    else []
