-- Which events depend on one, and on which one depends.
use Rattle.std.specs.Prelude.{◌≡◌, ℕ, nat_lt, Bool, List, Option, Some, None, filter, find, if◌then◌else◌}
use Rattle.rev_causal.specs.Store.{among}
use Rattle.rev_cells.specs.declared.cell.Cell.{Cell}
use Rattle.rev_cells.specs.Keys.{cell_cmp}
use Rattle.rev_footprint.specs.Value.{FootprintValue}
use Rattle.rev_history.specs.Timeline.{Timeline, kept_footprint}
use Rattle.rev_held.specs.Dependence.{depends_on, is_accessed_by}

-- the kept numbers that depend on one, and those on which one depends
abbrev pub dependents_of : Timeline → ℕ → List ℕ
dependents_of t one = filter (λ k. depends_on t one k) t.kept

abbrev pub needed_by : Timeline → ℕ → List ℕ
needed_by t other = filter (λ k. depends_on t k other) t.kept

-- AS THEY ARE FOUND
-- of whatever is asked, the same is found first in both lists
abbrev pub FindsAs : List Cell → List Cell → Type 0
FindsAs keys cells = (p : Cell → Bool) → find p keys ≡ find p cells

-- the keys are the cells that the event writes
abbrev pub IsWritten : FootprintValue → List Cell → Type 0
IsWritten f keys = FindsAs keys f.writes

-- the keys are the cells that it reads or writes
abbrev pub IsNamed : FootprintValue → List Cell → Type 0
IsNamed f keys = (c : Cell) → among cell_cmp keys c ≡ is_accessed_by f c

-- whether an event is a plan, and its cells
pub record IsTold (f : FootprintValue) (whole : Bool) (written named : List Cell) : Type 0 where
  pub plan : whole ≡ f.whole
  pub writes : IsWritten f written
  pub names : IsNamed f named

-- so it is with the event of a kept number
pub record IsToldOf (t : Timeline) (n : ℕ) (whole : Bool) (written named : List Cell) : Type 0 where
  pub footprint : FootprintValue
  pub is : Some footprint ≡ kept_footprint t n
  pub told : IsTold footprint whole written named

-- the lesser of a place and of one that was found
abbrev pub earlier_of : ℕ → Option ℕ → ℕ
earlier_of place (Some other) = if nat_lt other place then other else place
earlier_of place None = place
