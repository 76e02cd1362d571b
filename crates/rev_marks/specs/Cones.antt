-- The cones of a history's events, with all cells and beside those of jobs and slots.
use Rattle.std.specs.Prelude.{ℕ, Bool, List, Option}
use Rattle.std.specs.Option.{option_map}
use Rattle.rev_causal.specs.Store.{Footprint}
use Rattle.rev_cells.specs.declared.cell.Cell.{Cell}
use Rattle.rev_footprint.specs.Value.{print_of}
use Rattle.rev_history.specs.Timeline.{Timeline, kept_footprint}
use Rattle.rev_marks.specs.Lanes.{clash, has_print}
use Rattle.rev_marks.specs.Table.{viewed}
use Rattle.rev_marks.specs.Walk.{cone_among}

-- AS THEY ARE FOUND
-- what a kept event reads and writes of the cells that count
abbrev pub seen : Timeline → Bool → ℕ → Option (Footprint Cell)
seen t beside n = option_map (λ f. viewed beside (print_of f)) (kept_footprint t n)

-- a kept number and each later one whose event conflicts with a member by these cells
abbrev pub cone_seen : Timeline → Bool → ℕ → List ℕ
cone_seen t beside n = cone_among (clash (seen t beside)) (has_print (seen t beside)) t.kept n
