-- Members of a cone, taken one after the other.
use Rattle.std.specs.Prelude.{ℕ, Bool, ◌&&◌, ◌||◌, List, [], ◌∷◌, Option, filter, nat_lt, if◌then◌else◌}
use Rattle.rev_causal.specs.Order.{any_conflict, cone}
use Rattle.rev_marks.specs.Masks.{is_that}

module _ (clash : ℕ → ℕ → Bool) (is : ℕ → Bool) where
  -- a number, and each later one of some that conflicts with a member
  abbrev pub cone_among : List ℕ → ℕ → List ℕ
  cone_among kept n = if is n then n ∷ cone clash (n ∷ []) (filter (λ k. nat_lt n k) kept) else []

  -- AS THEY ARE FOUND
  -- with one more number, where it is the one whose cone it is, or conflicts with a member
  abbrev pub taken : Option ℕ → List ℕ → ℕ → List ℕ
  taken asked held k = if is k && (is_that asked k || any_conflict clash held k) then k ∷ held else held

  -- the members, when these numbers were gone through
  abbrev pub walk : Option ℕ → List ℕ → List ℕ → List ℕ
  walk asked held [] = held
  walk asked held (k ∷ ks) = walk asked (taken asked held k) ks
