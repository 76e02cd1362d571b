-- Tables of who touches which place, and what is found by them.
use Rattle.std.specs.Prelude.{◌≡◌, ◌≢◌, ◌⊎◌, ◌↔◌, ℕ, zero, suc, ◌+◌, ◌<◌, ◌≤◌, ◌^◌, Bool, true, false, ◌||◌, List, [], ◌∷◌, ◌++◌, map, length, Option, Some, None, slice_get, slice_index_or, if◌then◌else◌}
use Rattle.std.specs.List.{Contains}
use Rattle.std.specs.Option.{option_map}
use Rattle.std.specs.List.Sorted.{IsStrictlySortedBy}
use Rattle.std.specs.Ordering.{nat_cmp}
use Rattle.std.specs.Cmp.Lexicographic.{slice_cmp}
use Rattle.rev_manifest.specs.Manifest.{BuildValue}
use Rattle.rev_ranks.specs.Graph.{Steps, successors_of}
use Rattle.rev_waits.specs.Waits.{Waits}
use Rattle.rev_observed.specs.CommandValues.{CommandValue}
use Rattle.rev_observed.specs.declared.kind.Kind.TheVariants.{Reads, Stats, Misses, Lists}
use Rattle.rev_conflicts.specs.declared.place.Place.{Place}
use Rattle.rev_conflicts.specs.declared.place.Place.TheVariants.{File, Entries}
use Rattle.rev_conflicts.specs.declared.conflict.Conflict.{Conflict}
use Rattle.rev_conflicts.specs.declared.conflict.ConflictKind.{ConflictKind}
use Rattle.rev_conflicts.specs.declared.told.Told.{Told}
use Rattle.rev_conflicts.specs.Places.{changes, does, folder_number, Touches}
use Rattle.rev_conflicts.specs.Conflicts.{Scene, kind_at, runs_first}
use Rattle.rev_conflicts.specs.Answer.{place_key}

-- it holds of some number below this one
pub record SomeBelow (P : ℕ → Type 0) (n : ℕ) : Type 0 where
  pub number : ℕ
  pub below : number < n
  pub holds : P number

-- WHO TOUCHES A PLACE
-- the tables of files and of folders have the command at the place
abbrev pub HasAt : List (List ℕ) → List (List ℕ) → Place → ℕ → Type 0
HasAt files folders (File path) command = Steps files path command
HasAt files folders (Entries folder) command = Steps folders folder command

-- what one path that a command changes has it touch
pub data OneTouches (paths : List (List ℕ)) (hidden : List Bool) (path : ℕ) : Place → Type 0 where
  file : path < length paths → slice_index_or hidden path false ≡ false → OneTouches paths hidden path (File path)
  entry : {folder : ℕ} → path < length paths → slice_index_or hidden path false ≡ false
      → folder_number paths path ≡ Some folder → OneTouches paths hidden path (Entries folder)

-- what paths that a command changes have it touch
abbrev pub EachTouches : List (List ℕ) → List Bool → List ℕ → Place → Type 0
EachTouches paths hidden changed place =
    SomeBelow (λ i. OneTouches paths hidden (slice_index_or changed i 0) place) (length changed)

-- one more command at one place
pub record Puts (old new : List (List ℕ)) (place command : ℕ) : Type 0 where
  pub each : length new ≡ length old
  pub exact : (p c : ℕ) → Steps new p c ↔ (Steps old p c ⊎ ((p ≡ place) × (c ≡ command)))

-- tables with one more command at the places that pass
pub record PutsAt (files folders new_files new_folders : List (List ℕ)) (command : ℕ) (P : Place → Type 0) : Type 0 where
  pub each_file : length new_files ≡ length files
  pub each_folder : length new_folders ≡ length folders
  pub exact : (p : Place) (c : ℕ) → HasAt new_files new_folders p c
      ↔ (HasAt files folders p c ⊎ ((c ≡ command) × P p))

-- the command of this number touches the place
pub record TouchesBy (paths : List (List ℕ)) (hidden : List Bool) (commands : List CommandValue) (place : Place) (number : ℕ) : Type 0 where
  pub command : CommandValue
  pub within : number < length commands
  pub is : slice_index_or commands number command ≡ command
  pub touches : Touches paths hidden command place

-- for each path the commands that touch its file, and those that touch the entries of its folder
pub record AreTouched
    (paths : List (List ℕ)) (hidden : List Bool) (commands : List CommandValue) (files folders : List (List ℕ))
    : Type 0 where
  pub each_file : length files ≡ length paths
  pub each_folder : length folders ≡ length paths
  pub exact : (p : Place) (c : ℕ) → HasAt files folders p c ↔ TouchesBy paths hidden commands p c

-- for each number, and one more, the next from it on at which somebody may be: nobody is before that one
pub record AreNexts (lists : List (List ℕ)) (nexts : List ℕ) : Type 0 where
  pub each : length nexts ≡ length lists + 1
  pub least : (n : ℕ) → n ≤ length lists → n ≤ slice_index_or nexts n 0
  pub within : (n : ℕ) → n ≤ length lists → slice_index_or nexts n 0 ≤ length lists
  pub between : (n p c : ℕ) → n ≤ p → p < slice_index_or nexts n 0 → Steps lists p c → ⊥

-- NOTHING TO TELL
-- the user is each of these commands' edge, or waits for it
abbrev pub AreQuiet : List BuildValue → List ℕ → ℕ → List ℕ → Type 0
AreQuiet builds edges user commands =
    (c : ℕ) → Contains commands c → (slice_index_or edges c 0 ≡ user) ⊎ Waits builds user (slice_index_or edges c 0)

-- the command has to do with the file, or with the entries of the folder
abbrev pub uses_at : CommandValue → Place → Bool
uses_at command (File path) =
    does Reads command path || does Misses command path || does Stats command path || changes command path
uses_at command (Entries folder) = does Lists command folder

-- WHAT IS FOUND, AS NUMBERS
-- the place of the two numbers of its key
abbrev pub place_by : ℕ → ℕ → Place
place_by zero number = File number
place_by (suc kind) number = Entries number

abbrev pub meet_key : ℕ → ℕ → Place → ℕ → ℕ → List ℕ
meet_key maker user place made_by used_by = maker ∷ user ∷ (place_key place ++ made_by ∷ used_by ∷ [])

-- the commands that the tables have at a place
abbrev pub touching : List (List ℕ) → List (List ℕ) → Place → List ℕ
touching files folders (File path) = successors_of files path
touching files folders (Entries folder) = successors_of folders folder

-- a maker's edge is another than the user's, does not run before all else, and is none that the user waits for
pub record IsApart (builds : List BuildValue) (early : List Bool) (user maker : ℕ) : Type 0 where
  pub others : maker ≢ user
  pub comes_later : slice_index_or early maker false ≡ false
  pub unordered : Waits builds user maker → ⊥

-- One of these commands meets the user's. `early` has a mark for each edge that runs before all else.
pub record IsKeyBy
    (builds : List BuildValue) (early : List Bool) (edges : List ℕ) (user used_by : ℕ) (place : Place)
    (commands k : List ℕ)
    : Type 0 where
  pub made_by : ℕ
  pub among : Contains commands made_by
  pub apart : IsApart builds early user (slice_index_or edges made_by 0)
  pub is : k ≡ meet_key (slice_index_or edges made_by 0) user place made_by used_by

-- the same of the commands that tables have at a place
abbrev pub IsKeyAt : List BuildValue → List Bool → List ℕ → List (List ℕ) → List (List ℕ) → ℕ → Place → List ℕ → Type 0
IsKeyAt builds early edges files folders used_by place k =
    IsKeyBy builds early edges (slice_index_or edges used_by 0) used_by place (touching files folders place) k

-- at some place
pub record IsKeyOf
    (builds : List BuildValue) (early : List Bool) (edges : List ℕ) (files folders : List (List ℕ)) (used_by : ℕ)
    (k : List ℕ)
    : Type 0 where
  pub place : Place
  pub key : IsKeyAt builds early edges files folders used_by place k

-- a mark for each edge: it has one exactly where it runs before all else
pub record AreEarly (builds : List BuildValue) (files : List (List ℕ)) (marks : List Bool) : Type 0 where
  pub each : length marks ≡ length builds
  pub exact : (edge : ℕ) → slice_index_or marks edge false ≡ runs_first builds files edge

-- the place of a number, in the table of folders or in that of files
abbrev pub place_in : Bool → ℕ → Place
place_in of_folders number = if of_folders then Entries number else File number

abbrev pub told_key : Told → List ℕ
told_key t = meet_key t.maker t.user t.place t.made_by t.used_by

-- numbers of what is told, of which the first two fit those of edges
pub record IsOfMeet (k : List ℕ) : Type 0 where
  pub told : Told
  pub is : k ≡ told_key told
  pub maker : told.maker < 2 ^ 32
  pub user : told.user < 2 ^ 32

-- the path of a place has a number
abbrev pub IsNamed : ℕ → Place → Type 0
IsNamed count (File path) = path < count
IsNamed count (Entries folder) = Unit {0}

-- what is told of two commands: the one touches the place, and their edges are apart
pub record IsMet
    (builds : List BuildValue) (early : List Bool) (edges : List ℕ) (paths : List (List ℕ)) (hidden : List Bool)
    (commands : List CommandValue) (t : Told)
    : Type 0 where
  pub touches : TouchesBy paths hidden commands t.place t.made_by
  pub uses : t.used_by < length commands
  pub maker_is : slice_index_or edges t.made_by 0 ≡ t.maker
  pub user_is : slice_index_or edges t.used_by 0 ≡ t.user
  pub apart : IsApart builds early t.user t.maker

-- all that is told where the user's command has to do with the place, and nothing that is not told, each once, in the
-- order of its numbers
pub record AreMet
    (builds : List BuildValue) (early : List Bool) (edges : List ℕ) (paths : List (List ℕ)) (hidden : List Bool)
    (commands : List CommandValue) (told : List Told)
    : Type 0 where
  pub sound : (t : Told) → Contains told t → IsMet builds early edges paths hidden commands t
  pub whole : (t : Told) (used : CommandValue) → IsMet builds early edges paths hidden commands t
      → slice_index_or commands t.used_by used ≡ used → uses_at used t.place ≡ true → Contains told t
  pub rising : IsStrictlySortedBy (slice_cmp nat_cmp) (map told_key told)

-- WHAT IS FOUND, WITH ITS KIND
abbrev pub kind_among : Scene → Told → Option CommandValue → Option CommandValue → Option ConflictKind
kind_among s t (Some made) (Some used) = kind_at s t.maker t.user made used t.place
kind_among s t _ _ = None

abbrev pub kind_told : Scene → Told → Option ConflictKind
kind_told s t = kind_among s t (slice_get s.commands t.made_by) (slice_get s.commands t.used_by)

abbrev pub of_kind : Told → ConflictKind → Conflict
of_kind t kind =
    record {
      kind = kind;
      maker = t.maker;
      user = t.user;
      place = t.place;
      made_by = t.made_by;
      used_by = t.used_by;
    }

abbrev pub with_kind : Scene → Told → Option Conflict
with_kind s t = option_map (of_kind t) (kind_told s t)

-- what is judged, as it is given
abbrev pub scene : List BuildValue → List (List ℕ) → List (List ℕ) → List CommandValue → List ℕ → List Bool → Scene
scene builds files paths commands edges hidden =
    record { builds = builds; files = files; paths = paths; commands = commands; edges = edges; hidden = hidden }
