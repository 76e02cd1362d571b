-- Numbers out of which others are taken.
use Rattle.std.specs.Prelude.{◌≡◌, ℕ, Bool, true, false, not, List}
use Rattle.std.specs.List.{filter}
use Rattle.rev_causal.specs.Chosen.{is_among}

-- the numbers but for some
abbrev pub without_all : List ℕ → List ℕ → List ℕ
without_all members numbers = filter (λ k. not (is_among members k)) numbers

-- each number that is no member stays, in its order, and none comes
pub record IsThinned (members old new : List ℕ) : Type 0 where
  pub keeps : ℕ → Bool
  pub is : new ≡ filter keeps old
  pub others : (k : ℕ) → is_among members k ≡ false → keeps k ≡ true
