-- Lists out of which members of a set of numbers are taken.
use Rattle.std.specs.Prelude.{◌≡◌, ℕ, true, false, List, [], ◌∷◌}
use Rattle.std.specs.Ordering.{nat_cmp}
use Rattle.rev_causal.specs.AccessLists.{lists_read, lists_write}
use Rattle.rev_causal.specs.Chosen.{is_among}
use Rattle.rev_causal.specs.History as causal
use Rattle.rev_causal.specs.Store.{Footprint, among, is_whole}
use Rattle.rev_numbers.specs.Taken.{IsThinned}
use Rattle.rev_accesses.specs.Value.{AccessesValue, Index, Prints, numbers_at}

-- the footprints but for those of some numbers
abbrev pub prints_without : List ℕ → Prints → Prints
prints_without [] prints = prints
prints_without (m ∷ members) prints = causal.without m (prints_without members prints)

-- at each place members alone were taken out
abbrev pub AreThinnedUnder : List ℕ → Index → Index → Type 0
AreThinnedUnder members old new = (p : ℕ) → IsThinned members (numbers_at old p) (numbers_at new p)

-- so it is with all lists
pub record AreThinned (members : List ℕ) (old new : AccessesValue) : Type 0 where
  pub writers : AreThinnedUnder members old.writers new.writers
  pub readers : AreThinnedUnder members old.readers new.readers
  pub whole : IsThinned members old.whole new.whole

-- the number stands at none of these places
abbrev pub IsGoneUnder : ℕ → List ℕ → Index → Type 0
IsGoneUnder n places index = (p : ℕ) → among nat_cmp places p ≡ true → is_among (numbers_at index p) n ≡ false

-- the number stands in no list in which its footprint has it
pub record IsGone (n : ℕ) (f : Footprint ℕ) (a : AccessesValue) : Type 0 where
  pub written : (p : ℕ) → lists_write nat_cmp p f ≡ true → is_among (numbers_at a.writers p) n ≡ false
  pub read : (p : ℕ) → lists_read nat_cmp p f ≡ true → is_among (numbers_at a.readers p) n ≡ false
  pub whole : is_whole f ≡ true → is_among a.whole n ≡ false
