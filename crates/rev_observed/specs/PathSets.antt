-- Sets of numbers as ranges that rise.
use Rattle.std.specs.Prelude.{ℕ, ◌+◌, ◌<◌, ◌≤◌, nat_le, Bool, true, ◌&&◌, List, [], ◌∷◌}
use Rattle.std.specs.List.{AllByRecursion}
use Rattle.rev_observed.specs.declared.path_set.PathRange.{PathRange}

-- each range has a number, and each is above those before it
abbrev pub AreRising : List PathRange → Type 0
AreRising [] = Unit {0}
AreRising (r ∷ rs) = (r.first ≤ r.last) × AllByRecursion (λ (s : PathRange). r.last < s.first) rs × AreRising rs

-- whether ranges rise, the first of them from such a number on
abbrev pub are_rising_from : ℕ → List PathRange → Bool
are_rising_from least [] = true
are_rising_from least (r ∷ rs) = nat_le least r.first && nat_le r.first r.last && are_rising_from (r.last + 1) rs

abbrev pub are_rising : List PathRange → Bool
are_rising ranges = are_rising_from 0 ranges
