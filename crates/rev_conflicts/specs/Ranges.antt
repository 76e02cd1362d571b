-- Numbers of paths in ranges.
use Rattle.std.specs.Prelude.{ℕ, nat_le, Bool, ◌&&◌, List}
use Rattle.std.specs.List.{list_any}
use Rattle.rev_observed.specs.declared.path_set.PathRange.{PathRange}

-- whether a number is in a range
abbrev pub is_in : ℕ → PathRange → Bool
is_in n r = nat_le r.first n && nat_le n r.last

-- whether a number is in one of the ranges
abbrev pub has_path : List PathRange → ℕ → Bool
has_path ranges n = list_any (is_in n) ranges
