-- Numbers of paths in ranges.
use Rattle.std.specs.Prelude.{ℕ, nat_le, Bool, true, false, ◌&&◌, List, Option, Some}
use Rattle.std.specs.List.{list_any}
use Rattle.std.specs.Option.{option_or}
use Rattle.rev_observed.specs.declared.path_set.PathRange.{PathRange}

-- whether a number is in a range
abbrev pub is_in : ℕ → PathRange → Bool
is_in n r = nat_le r.first n && nat_le n r.last

-- whether a number is in one of the ranges
abbrev pub has_path : List PathRange → ℕ → Bool
has_path ranges n = list_any (is_in n) ranges

-- what is noted of a path, of which something may be noted already: what was noted first stays
abbrev pub noted : {T : Type 0} → Bool → T → Option T → Option T
noted true value before = option_or before (Some value)
noted false value before = before
