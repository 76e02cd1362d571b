-- Marks of producers, and what the last searches found.
use Rattle.std.specs.Prelude.{◌≡◌, ℕ, ◌<◌, ◌↔◌, Bool, List, [], length, Option, Some, None, IfSome, Contains, slice_index_or}
use Rattle.rev_manifest.specs.Manifest.{BuildValue}
use Rattle.rev_ranks.specs.Graph.{Steps}
use Rattle.rev_graph.specs.Graph.{producer_of}
use Rattle.rev_waits.specs.Waits.{AreWaitedFor, Makes, Waits}
use Rattle.rev_races.specs.Answer.{IsFirstPlace, IsToTell}

-- a mark for each node; a mark with a number says that this one steps to the node
pub record AreDirect (graph : List (List ℕ)) (marks : List (Option ℕ)) : Type 0 where
  pub each : length marks ≡ length graph
  pub sound : (node from : ℕ) → slice_index_or marks node None ≡ Some from → Steps graph from node

-- an edge waits for whatever makes the path
pub record IsQuiet (builds : List BuildValue) (user : ℕ) (path : List ℕ) : Type 0 where
  pub waits : (maker : ℕ) → Makes builds maker path → Waits builds user maker

-- the path at a place of a list stands at none before it, or is quiet
abbrev pub IsFirstOrQuiet : List BuildValue → ℕ → List (List ℕ) → ℕ → Type 0
IsFirstOrQuiet builds user paths place =
    (before : ℕ) → before < place → slice_index_or paths before [] ≡ slice_index_or paths place []
    → IsQuiet builds user (slice_index_or paths place [])

-- the path at a place of a list stands at none before it, or nobody who makes it is to be told
abbrev pub IsFirstOrUntold : List BuildValue → List (List ℕ) → ℕ → List (List ℕ) → ℕ → Type 0
IsFirstOrUntold builds files user paths place =
    (before maker : ℕ) → before < place → slice_index_or paths before [] ≡ slice_index_or paths place []
    → Makes builds maker (slice_index_or paths place []) → IsToTell builds files user maker → ⊥

-- a place of a list is among some, or nothing is told at it: its path is quiet, or stands before it
pub data IsCovered
    (builds : List BuildValue) (user : ℕ) (paths : List (List ℕ)) (places : List ℕ) (place : ℕ)
    : Type 0 where
  among : Contains places place → IsCovered builds user paths places place
  quiet : IsQuiet builds user (slice_index_or paths place []) → IsCovered builds user paths places place
  repeated : (IsFirstPlace paths place → ⊥) → IsCovered builds user paths places place

-- where there was a search, its marks are those of its edge
pub record IsKept (builds : List BuildValue) (edge : Option ℕ) (marks : List Bool) : Type 0 where
  pub within : IfSome edge (λ e. e < length builds)
  pub waited : IfSome edge (λ e. AreWaitedFor builds e marks)

-- where makers were looked for behind a phony edge, they are those of each path that it produces
pub record AreKeptMakers (builds : List BuildValue) (phony : Option ℕ) (makers : List ℕ) : Type 0 where
  pub makers_are : IfSome phony (λ edge. (path : List ℕ) → producer_of builds path ≡ Some edge
      → (maker : ℕ) → Contains makers maker ↔ Makes builds maker path)
