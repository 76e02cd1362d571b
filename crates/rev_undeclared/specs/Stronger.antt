-- Of one path and one user the strongest alone is told.
use Rattle.std.specs.Prelude.{ℕ, ◌==◌, Bool, true, false, ◌&&◌, ◌||◌, List}
use Rattle.std.specs.List.{list_any}
use Rattle.rev_conflicts.specs.declared.conflict.Conflict.{Conflict}
use Rattle.rev_conflicts.specs.declared.conflict.ConflictKind.{ConflictKind}
use Rattle.rev_conflicts.specs.declared.conflict.ConflictKind.TheVariants.{Clash, Race, Cycle, Unstable}
use Rattle.rev_conflicts.specs.declared.place.Place.{Place}
use Rattle.rev_conflicts.specs.declared.place.Place.TheVariants.{File, Entries}

-- the place is this file
abbrev pub is_file : ℕ → Place → Bool
is_file path (File other) = other == path
is_file path (Entries folder) = false

abbrev pub is_clash : ConflictKind → Bool
is_clash Clash = true
is_clash (Race look change) = false
is_clash (Cycle look) = false
is_clash (Unstable look change) = false

-- a conflict is told of this user and this file: of a clash both edges are users
abbrev pub tells_of : ℕ → ℕ → Conflict → Bool
tells_of user path c = is_file path c.place && (c.user == user || (is_clash c.kind && c.maker == user))

-- one of the conflicts is: what is weaker is not told of them again
abbrev pub is_told : List Conflict → ℕ → ℕ → Bool
is_told conflicts user path = list_any (tells_of user path) conflicts
