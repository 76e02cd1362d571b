-- Commands and the edges of a manifest: a command is known by the first output of its edge.
use Rattle.std.specs.Prelude.{◌≡◌, ℕ, ◌<◌, Bool, false, bytes_eq, if◌then◌else◌, List, [], ◌∷◌, length, Option, Some, None}
use Rattle.std.specs.List.{slice_index_or}
use Rattle.rev_manifest.specs.Builds.{BuildValue}
use Rattle.rev_graph.specs.Graph.{build_at, outputs_of, producer_of}

-- whether a path is the first of these
abbrev pub is_first : List (List ℕ) → List ℕ → Bool
is_first [] path = false
is_first (first ∷ rest) path = bytes_eq first path

-- an edge, where the path is its first output
abbrev pub led_by : List BuildValue → List ℕ → Option ℕ → Option ℕ
led_by builds path None = None
led_by builds path (Some edge) = if is_first (outputs_of (build_at builds edge)) path then Some edge else None

-- the edge of which a path is the first output, if it is one's
abbrev pub edge_of : List BuildValue → List ℕ → Option ℕ
edge_of builds path = led_by builds path (producer_of builds path)

-- the path at a place is no edge's first output, and each before it is one's
pub record IsFirstLost (builds : List BuildValue) (paths : List (List ℕ)) (place : ℕ) : Type 0 where
  pub within : place < length paths
  pub lost : edge_of builds (slice_index_or paths place []) ≡ None
  pub earlier : (k : ℕ) → k < place → (edge : ℕ) × (edge_of builds (slice_index_or paths k []) ≡ Some edge)
