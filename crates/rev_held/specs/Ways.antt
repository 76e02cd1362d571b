-- What an event rests on, also by way of others.
use Rattle.std.specs.Prelude.{◌≡◌, ◌≤◌, ℕ, true, List, [], ◌∷◌, ◌++◌, ◌⊎◌, Option, Some, None, find, reverse}
use Rattle.rev_history.specs.Timeline.{Timeline}
use Rattle.rev_held.specs.Dependence.{depends_on}

-- of some events the first that depends on an earlier one
abbrev pub first_on : Timeline → ℕ → List ℕ → Option ℕ
first_on t one others = find (λ other. depends_on t one other) others

-- with an event on which one of those depends, or without it
abbrev pub found_on : ℕ → Option ℕ → List (ℕ × ℕ) → List (ℕ × ℕ) → List (ℕ × ℕ)
found_on one None without with = without
found_on one (Some other) without with = (one, other) ∷ with

-- Going down these numbers, each on which one of those found so far depends, with the first of these that does. It is
-- one of those found from there on.
abbrev pub ways_down : Timeline → List ℕ → List ℕ → List (ℕ × ℕ)
ways_down t found [] = []
ways_down t found (one ∷ ones) =
    found_on one (first_on t one found) (ways_down t found ones) (ways_down t (found ++ one ∷ []) ones)

-- the kept numbers on whose events that of a number depends, also by way of others, from the latest down, each with the
-- latest of these, or the number itself, that depends on it
abbrev pub ways_to : Timeline → ℕ → List (ℕ × ℕ)
ways_to t n = ways_down t (n ∷ []) (reverse t.kept)

-- The event of n rests on that of another number: it depends on it, or an event that n rests on does.
pub data RestsOn (t : Timeline) (n : ℕ) : ℕ → Type 0 where
  at_once : (k : ℕ) → depends_on t k n ≡ true → RestsOn t n k
  by_another : (k m : ℕ) → RestsOn t n m → depends_on t k m ≡ true → RestsOn t n k

-- n itself, or one that it rests on
abbrev pub IsOnWay : Timeline → ℕ → ℕ → Type 0
IsOnWay t n m = (n ≡ m) ⊎ RestsOn t n m

-- of n and those that it rests on, m is the latest that depends on k
pub record IsLatestOn (t : Timeline) (n k m : ℕ) : Type 0 where
  pub on_way : IsOnWay t n m
  pub depends : depends_on t k m ≡ true
  pub latest : (l : ℕ) → IsOnWay t n l → depends_on t k l ≡ true → l ≤ m
