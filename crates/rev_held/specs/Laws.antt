-- What holds of dependence in every history.
use Rattle.std.specs.Prelude.{◌≡◌, ◌<◌, ℕ, true, List, [], ◌∷◌, map, ◌↔◌, ◌⊎◌, Some, None}
use Rattle.std.specs.List.{AllByRecursion}
use Rattle.rev_causal.specs.Order.{Has}
use Rattle.rev_cells.specs.declared.cell.Cell.{Cell}
use Rattle.rev_footprint.specs.Value.{FootprintValue}
use Rattle.rev_history.specs.Laws.{DependsOn}
use Rattle.rev_history.specs.Timeline.{Timeline, IsHistory, kept_footprint}
use Rattle.rev_held.specs.Dependence.{dependence_of, depends_on}
use Rattle.rev_held.specs.Ways.{IsLatestOn, RestsOn, ways_to}

-- the test is exact
abbrev pub DependsIsExact : Type 0
DependsIsExact = (t : Timeline) (one other : ℕ) → IsHistory t → (depends_on t one other ≡ true) ↔ DependsOn t other one

-- the kept event is whole, as a plan
pub record IsWhole (t : Timeline) (n : ℕ) : Type 0 where
  pub footprint : FootprintValue
  pub has : kept_footprint t n ≡ Some footprint
  pub whole : footprint.whole ≡ true

-- what is said of a later event and an earlier one
pub record NamesCell (t : Timeline) (one other : ℕ) : Type 0 where
  pub sound : (c : Cell) → dependence_of t one other ≡ Some c → depends_on t one other ≡ true
  pub complete : depends_on t one other ≡ true → dependence_of t one other ≡ None → IsWhole t one ⊎ IsWhole t other

abbrev pub CellsAreNamed : Type 0
CellsAreNamed = (t : Timeline) (one other : ℕ) → NamesCell t one other

-- numbers that fall
abbrev pub IsFalling : List ℕ → Type 0
IsFalling [] = Unit {0}
IsFalling (x ∷ xs) = AllByRecursion (λ y. y < x) xs × IsFalling xs

-- The ways to n are from exactly the numbers that it rests on, each once and from the latest down, to the latest of
-- these, or n itself, that depends on it.
pub record AreWays (t : Timeline) (n : ℕ) : Type 0 where
  pub all : (k : ℕ) → Has (map (λ (way : ℕ × ℕ). way.0) (ways_to t n)) k ↔ RestsOn t n k
  pub fall : IsFalling (map (λ (way : ℕ × ℕ). way.0) (ways_to t n))
  pub latest : (k m : ℕ) → Has (ways_to t n) (k, m) → IsLatestOn t n k m

abbrev pub WaysAreAll : Type 0
WaysAreAll = (t : Timeline) (n : ℕ) → IsHistory t → AreWays t n
