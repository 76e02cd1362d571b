-- What depends on a kept event.
use Rattle.std.specs.Prelude.{ℕ, Bool, false, ◌&&◌, nat_lt, List, filter, Option, Some, None}
use Rattle.rev_causal.specs.Store.{conflict}
use Rattle.rev_cells.specs.Keys.{cell_cmp}
use Rattle.rev_footprint.specs.Value.{FootprintValue, print_of}
use Rattle.rev_history.specs.Timeline.{Timeline, kept_footprint}

-- whether two events that are kept conflict
abbrev pub conflicts : Option FootprintValue → Option FootprintValue → Bool
conflicts (Some f) (Some g) = conflict cell_cmp (print_of f) (print_of g)
conflicts (Some f) None = false
conflicts None g = false

-- whether the kept event m is later than the kept event n and conflicts with it
abbrev pub depends : Timeline → ℕ → ℕ → Bool
depends t n m = nat_lt n m && conflicts (kept_footprint t n) (kept_footprint t m)

-- the kept events that depend on n, in rising number
abbrev pub dependents : Timeline → ℕ → List ℕ
dependents t n = filter (depends t n) t.kept
