-- Turns: an edge, and before it the number that it goes by.
use Rattle.std.specs.Prelude.{◌≡◌, ℕ, ◌<◌, ◌≤◌, ◌⊎◌, List, ◌∷◌}
use Rattle.std.specs.List.{Contains}
use Rattle.std.specs.List.Sorted.{IsPermutation}

abbrev pub Turn : Type 0
Turn = ℕ × ℕ

-- the lesser number goes first, and of equal numbers the lesser edge
abbrev pub GoesBefore : Turn → Turn → Type 0
GoesBefore one other = (one.0 < other.0) ⊎ ((one.0 ≡ other.0) × (one.1 ≤ other.1))

-- One goes first of all of them, and the rest stays.
pub record IsFirst (one : Turn) (every rest : List Turn) : Type 0 where
  pub parts : IsPermutation every (one ∷ rest)
  pub first : (other : Turn) → Contains every other → GoesBefore one other
