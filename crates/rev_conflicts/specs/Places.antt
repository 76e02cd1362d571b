-- Places, and what commands do there.
use Rattle.std.specs.Prelude.{◌≡◌, ℕ, ◌<◌, zero, suc, ◌==◌, Bool, true, false, ◌||◌, List, [], ◌∷◌, length, take, Option, Some, None, slice_index_or, if◌then◌else◌}
use Rattle.std.specs.Option.{option_map, option_or}
use Rattle.rev_paths.specs.Canonical.{canonical}
use Rattle.rev_paths.specs.Paths.{place_of}
use Rattle.rev_observed.specs.CommandValues.{CommandValue, paths_of}
use Rattle.rev_conflicts.specs.Ranges.{has_path}
use Rattle.rev_observed.specs.declared.kind.Kind.{Kind}
use Rattle.rev_observed.specs.declared.kind.Kind.TheVariants.{Reads, Stats, Misses, Lists, Writes, Deletes, Temps}
use Rattle.rev_conflicts.specs.declared.conflict.Look.{Look}
use Rattle.rev_conflicts.specs.declared.conflict.Look.TheVariants as look
use Rattle.rev_conflicts.specs.declared.place.Place.{Place}
use Rattle.rev_conflicts.specs.declared.place.Place.TheVariants.{File, Entries}

-- the command did with the path what the kind says
abbrev pub does : Kind → CommandValue → ℕ → Bool
does kind command path = has_path (paths_of kind command.uses) path

-- it leaves the file, takes it away, or has it as a temporary
abbrev pub changes : CommandValue → ℕ → Bool
changes command path = does Writes command path || does Deletes command path || does Temps command path

-- FOLDERS
-- the place of the last slash
abbrev pub last_slash : List ℕ → Option ℕ
last_slash [] = None
last_slash (b ∷ bs) = option_or (option_map suc (last_slash bs)) (if b == 47 then Some 0 else None)

-- what stands before the last slash; the root where that is the first byte, and `.` where there is none
abbrev pub folder_by : List ℕ → Option ℕ → List ℕ
folder_by path None = 46 ∷ []
folder_by path (Some zero) = 47 ∷ []
folder_by path (Some (suc n)) = take (suc n) path

abbrev pub folder_of : List ℕ → List ℕ
folder_of path = folder_by path (last_slash path)

-- the number of the folder that has a path, where a command has to do with that folder too
abbrev pub folder_number : List (List ℕ) → ℕ → Option ℕ
folder_number paths path = place_of (canonical (folder_of (slice_index_or paths path []))) paths

-- WHAT COMMANDS DO AT PLACES
-- A command touches a file where it leaves it, takes it away, or has it as a temporary. With a file it touches the
-- entries of the folder that has it. Nobody touches what a filter hides: `hidden` has a mark for each path.
pub data Touches (paths : List (List ℕ)) (hidden : List Bool) (command : CommandValue) : Place → Type 0 where
  file : {path : ℕ} → changes command path ≡ true → path < length paths → slice_index_or hidden path false ≡ false
      → Touches paths hidden command (File path)
  entry : {path folder : ℕ} → changes command path ≡ true → path < length paths
      → slice_index_or hidden path false ≡ false → folder_number paths path ≡ Some folder
      → Touches paths hidden command (Entries folder)

-- A command looks at a file where it reads it, asked for it and did not find it, or asked only for its stamp, and of
-- these the first is told. It looks at the entries of a folder where it lists that.
abbrev pub look_at : CommandValue → Place → Option Look
look_at command (File path) =
    if does Reads command path then Some look.Read
    else if does Misses command path then Some look.Miss
    else if does Stats command path then Some look.Stat
    else None
look_at command (Entries folder) = if does Lists command folder then Some look.List else None
