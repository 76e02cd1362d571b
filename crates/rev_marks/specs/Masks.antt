-- Masks of 64 bits, each bit a mark of its own.
use Rattle.std.specs.Prelude.{◌≡◌, ℕ, Bool, false, List, Option, Some, None, nat_eq, slice_get}
use Rattle.std.specs.Int.{bit_at}
use Rattle.std.specs.Map.{lookup}
use Rattle.rev_causal.specs.Chosen.{is_among}

-- bit i of the mask is set
abbrev pub has_mark : ℕ → ℕ → Bool
has_mark i mask = nat_eq (bit_at mask i) 1

-- the number stands at place i of some
abbrev pub is_that : Option ℕ → ℕ → Bool
is_that None n = false
is_that (Some a) n = nat_eq a n

abbrev pub is_asked : List ℕ → ℕ → ℕ → Bool
is_asked asked i n = is_that (slice_get asked i) n

-- the mask under a number, where there is none 0
abbrev pub or_none : Option ℕ → ℕ
or_none None = 0
or_none (Some mask) = mask

abbrev pub mask_under : List (ℕ × ℕ) → ℕ → ℕ
mask_under marks n = or_none (lookup (nat_eq n) marks)

-- a number is in the cone of another
abbrev pub is_in : (ℕ → List ℕ) → Option ℕ → ℕ → Bool
is_in cone None s = false
is_in cone (Some n) s = is_among (cone n) s

-- Mark i is under exactly the members of the cone of the number at place i of those asked.
pub record AreMarks (cone : ℕ → List ℕ) (asked : List ℕ) (marks : List (ℕ × ℕ)) : Type 0 where
  pub exact : (i s : ℕ) → has_mark i (mask_under marks s) ≡ is_in cone (slice_get asked i) s
