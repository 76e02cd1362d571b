-- Files as a map holds their names.
use Rattle.std.specs.Prelude.{ℕ, Bool, Option, Some, None, if◌then◌else◌}

-- a place that was found before, else the one that is found here
abbrev pub first_place : Option ℕ → Bool → ℕ → Option ℕ
first_place (Some earlier) found place = Some earlier
first_place None found place = if found then Some place else None
