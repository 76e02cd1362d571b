-- Conflicts of commands.
use Rattle.std.specs.Prelude.{◌≡◌, ◌≢◌, ℕ, ◌<◌, ◌==◌, nat_lt, Bool, true, false, not, ◌&&◌, List, [], length, Option, Some, None, slice_index_or, if◌then◌else◌}
use Rattle.std.specs.List.{list_any}
use Rattle.rev_manifest.specs.Manifest.{BuildValue}
use Rattle.rev_graph.specs.Graph.{producer_of}
use Rattle.rev_waits.specs.Waits.{Waits, waits}
use Rattle.rev_observed.specs.CommandValues.{CommandValue}
use Rattle.rev_observed.specs.declared.kind.Kind.TheVariants.{Writes, Edits, Deletes}
use Rattle.rev_conflicts.specs.declared.conflict.Change.{Change}
use Rattle.rev_conflicts.specs.declared.conflict.Change.TheVariants as change
use Rattle.rev_conflicts.specs.declared.conflict.ConflictKind.{ConflictKind}
use Rattle.rev_conflicts.specs.declared.conflict.ConflictKind.TheVariants as kind
use Rattle.rev_conflicts.specs.declared.conflict.Look.{Look}
use Rattle.rev_conflicts.specs.declared.conflict.Look.TheVariants as look
use Rattle.rev_conflicts.specs.declared.place.Place.{Place}
use Rattle.rev_conflicts.specs.declared.place.Place.TheVariants.{File, Entries}
use Rattle.rev_conflicts.specs.Places.{changes, does, look_at, Touches}

-- What is judged: the build lines, the files that the manifest was read from, the paths and the commands that were
-- observed, the edge of each command, and a mark for each path that a filter hides.
pub record Scene : Type 0 where
  pub builds : List BuildValue
  pub files : List (List ℕ)
  pub paths : List (List ℕ)
  pub commands : List CommandValue
  pub edges : List ℕ
  pub hidden : List Bool

-- the path is made by the edge
abbrev pub is_by : ℕ → Option ℕ → Bool
is_by edge None = false
is_by edge (Some producer) = producer == edge

-- the edge makes one of the files that the manifest was read from: it runs before all else
abbrev pub runs_first : List BuildValue → List (List ℕ) → ℕ → Bool
runs_first builds files edge = list_any (λ file. is_by edge (producer_of builds file)) files

-- what a command does at a place that it touches
abbrev pub change_at : List BuildValue → List (List ℕ) → ℕ → CommandValue → Place → Change
change_at builds paths edge command (File path) =
    if does Writes command path
    then (if is_by edge (producer_of builds (slice_index_or paths path [])) then change.Output
    else if does Edits command path then change.Edit else change.Undeclared)
    else if does Deletes command path then change.Delete else change.Temporary
change_at builds paths edge command (Entries folder) = change.Entry

-- the place is a file, and the command leaves it, takes it away, or has it as a temporary
abbrev pub changes_file : CommandValue → Place → Bool
changes_file command (File path) = changes command path
changes_file command (Entries folder) = false

-- the look tells the file's content, or that there was none
abbrev pub is_content : Look → Bool
is_content look.Read = true
is_content look.Miss = true
is_content look.Stat = false
is_content look.List = false

-- WHAT IS TOLD
-- Where the maker waits for the user: a cycle, where it leaves an output that the user looks at. Where it leaves, takes
-- away or changes another file, of which the user saw the content or that there was none, the next build shows the user
-- another one.
abbrev pub kind_back : Look → Change → Option ConflictKind
kind_back look change.Output = Some (kind.Cycle look)
kind_back look change.Edit = if is_content look then Some (kind.Unstable look change.Edit) else None
kind_back look change.Undeclared = if is_content look then Some (kind.Unstable look change.Undeclared) else None
kind_back look change.Delete = if is_content look then Some (kind.Unstable look change.Delete) else None
kind_back look change.Temporary = None
kind_back look change.Entry = None

abbrev pub kind_of_look : Bool → Change → Option Look → Option ConflictKind
kind_of_look back change None = None
kind_of_look back change (Some look) = if back then kind_back look change else Some (kind.Race look change)

-- Of a maker that touches a place, for which the user does not wait. Where the maker waits for the user, what holds of
-- the next build. Else a clash, where both leave the file and neither runs before all else, told once of the two. Else a
-- race, where the user looks at the place.
abbrev pub kind_by : Bool → Bool → Bool → Change → Option Look → Option ConflictKind
kind_by back both once change look =
    if back then kind_of_look true change look
    else if both then (if once then Some kind.Clash else None)
    else kind_of_look false change look

abbrev pub kind_at : Scene → ℕ → ℕ → CommandValue → CommandValue → Place → Option ConflictKind
kind_at s maker user made used place =
    kind_by (waits s.builds maker user) (changes_file used place && not (runs_first s.builds s.files user))
    (nat_lt maker user)
    (change_at s.builds s.paths maker made place) (look_at used place)

-- a command of the observation by its number, and its edge
pub record Ran (s : Scene) (number edge : ℕ) (command : CommandValue) : Type 0 where
  pub within : number < length s.commands
  pub is : slice_index_or s.commands number command ≡ command
  pub of : slice_index_or s.edges number 0 ≡ edge

-- Two commands meet at a place: the first touches it, they are of two edges, the first does not run before all else,
-- and the second does not wait for it.
pub record Meet (s : Scene) (maker user : ℕ) (place : Place) (made_by used_by : ℕ) : Type 0 where
  pub made : CommandValue
  pub used : CommandValue
  pub maker_ran : Ran s made_by maker made
  pub user_ran : Ran s used_by user used
  pub touched : Touches s.paths s.hidden made place
  pub others : maker ≢ user
  pub comes_later : runs_first s.builds s.files maker ≡ false
  pub unordered : Waits s.builds user maker → ⊥
