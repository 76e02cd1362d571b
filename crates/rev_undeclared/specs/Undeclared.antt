-- Files that commands leave, and that no output of theirs declares.
use Rattle.std.specs.Prelude.{◌≡◌, ◌≢◌, ℕ, ◌<◌, Bool, true, false, ◌||◌, bytes_eq, List, [], length, Option, Some, None, slice_index_or}
use Rattle.rev_manifest.specs.Manifest.{BuildValue}
use Rattle.rev_graph.specs.Graph.{build_at, producer_of}
use Rattle.rev_clashes.specs.Clashes.{file_at}
use Rattle.rev_clashes.specs.declared.side_file.SideFile.TheVariants.{Depfile, ResponseFile}
use Rattle.rev_observed.specs.CommandValues.{CommandValue}
use Rattle.rev_observed.specs.declared.kind.Kind.TheVariants.{Writes}
use Rattle.rev_conflicts.specs.declared.conflict.Look.{Look}
use Rattle.rev_conflicts.specs.declared.place.Place.TheVariants.{File}
use Rattle.rev_conflicts.specs.Places.{does, look_at}
use Rattle.rev_conflicts.specs.Conflicts.{Ran, Scene, runs_first}
use Rattle.rev_undeclared.specs.declared.kind.UndeclaredKind.{UndeclaredKind}
use Rattle.rev_undeclared.specs.declared.kind.UndeclaredKind.TheVariants.{Anothers, LookedAt}

-- the path of a number
abbrev pub path_at : List (List ℕ) → ℕ → List ℕ
path_at paths path = slice_index_or paths path []

-- the path is that of a file, where there is one
abbrev pub is_at : List ℕ → Option (List ℕ) → Bool
is_at path None = false
is_at path (Some other) = bytes_eq other path

-- the path is the edge's depfile, or its response file
abbrev pub is_side : List BuildValue → ℕ → List ℕ → Bool
is_side builds edge path = is_at path (file_at Depfile builds edge) || is_at path (file_at ResponseFile builds edge)

-- a file that no filter hides, and that is no depfile or response file of the edge
pub record IsOpen (paths : List (List ℕ)) (hidden : List Bool) (sides : List BuildValue) (edge path : ℕ) : Type 0 where
  pub named : path < length paths
  pub shown : slice_index_or hidden path false ≡ false
  pub beside : is_side sides edge (path_at paths path) ≡ false

-- The command of an edge leaves such a file. What makes a file of the manifest runs before all else.
pub record Leaves (s : Scene) (sides : List BuildValue) (maker path made_by : ℕ) : Type 0 where
  pub made : CommandValue
  pub ran : Ran s made_by maker made
  pub comes_later : runs_first s.builds s.files maker ≡ false
  pub left : does Writes made path ≡ true
  pub is_open : IsOpen s.paths s.hidden sides maker path

-- The edge has the path as an output, and has a command. What a phony edge has as an output, that one declares.
pub record IsOutputOf (builds : List BuildValue) (path : List ℕ) (owner : ℕ) : Type 0 where
  pub produced : producer_of builds path ≡ Some owner
  pub command : (build_at builds owner).phony ≡ false

-- UNDECLARED, AND ANOTHER'S
-- An edge leaves a file that is another edge's output; or it leaves one that is no edge's output, and the command of
-- another edge looks at it.
pub data IsUndeclared (s : Scene) (sides : List BuildValue) (maker user path made_by : ℕ) : UndeclaredKind → Type 0 where
  anothers : Leaves s sides maker path made_by → IsOutputOf s.builds (path_at s.paths path) user → maker ≢ user
      → IsUndeclared s sides maker user path made_by Anothers
  looked_at : {look : Look} {used_by : ℕ} {used : CommandValue} → Leaves s sides maker path made_by
      → producer_of s.builds (path_at s.paths path) ≡ None → maker ≢ user → Ran s used_by user used
      → look_at used (File path) ≡ Some look → IsUndeclared s sides maker user path made_by (LookedAt look used_by)

-- A file that an edge leaves, and that is no edge's output, at which no command of another edge looks.
pub record IsUnseen (s : Scene) (sides : List BuildValue) (maker path made_by : ℕ) : Type 0 where
  pub leaves : Leaves s sides maker path made_by
  pub undeclared : producer_of s.builds (path_at s.paths path) ≡ None
  pub unseen : (user used_by : ℕ) (used : CommandValue) → Ran s used_by user used → maker ≢ user
      → look_at used (File path) ≡ None
