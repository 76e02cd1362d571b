-- What is read of a depth so far. The text is not expanded as a whole, so it is read digit by digit.
use Rattle.std.specs.Prelude.{ℕ, ◌+◌, ◌-◌, ◌*◌, ◌&&◌, List, [], ◌∷◌, Option, Some, None, nat_le, if◌then◌else◌}
use Rattle.std.specs.Char.{is_ascii_digit}
use Rattle.rev_manifest.specs.declared.depth.TheConstants.{MAX_DEPTH}

-- the number that decimal digits say after those that said a number, unless it comes to more than 1,000,000
abbrev pub depth_from : ℕ → List ℕ → Option ℕ
depth_from number [] = Some number
depth_from number (b ∷ bs) =
    if is_ascii_digit b && nat_le (number * 10 + (b - 48)) MAX_DEPTH then depth_from (number * 10 + (b - 48)) bs else None
