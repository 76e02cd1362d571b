-- What the build lines of a manifest say of its edges. An edge's number is its place among the builds, from 0.
use Rattle.std.specs.Prelude.{◌≡◌, ℕ, ◌+◌, ◌<◌, ◌≤◌, Bool, false, ◌||◌, ◌==◌, List, [], ◌∷◌, ◌++◌, map, length, find, Option, Some, None, is_some, slice_get, slice_index_or, if◌then◌else◌}
use Rattle.std.specs.Option.{option_map, option_or}
use Rattle.std.specs.List.{Contains, list_any, filter_map}
use Rattle.rev_manifest.specs.Builds.{BuildValue, ManifestValue, IsManifest}
pub use Rattle.rev_manifest.specs.Builds.{outputs_of, inputs_of}
pub use Rattle.rev_manifest.specs.Names.{has_path}
use Rattle.rev_graph.specs.declared.graph.TheConstants.Graph.{MAX_EDGES}

-- a graph: a manifest without faults, and a rank for each edge
pub record GraphValue : Type 0 where
  pub manifest : ManifestValue
  pub ranks : List ℕ

-- an edge with nothing on its build line
abbrev pub no_build : BuildValue
no_build =
    record {
      phony = false;
      explicit_outs = [];
      implicit_outs = [];
      explicit = [];
      implicit = [];
      order_only = [];
      validations = [];
      command = [];
      depfile = [];
      rspfile = [];
      keeps_deps = false;
      restat = false;
      generator = false;
      pool = None;
      file = 0;
      line = 0;
    }

-- the edge of a number; past the last, one with nothing on its build line
abbrev pub build_at : List BuildValue → ℕ → BuildValue
build_at builds edge = slice_index_or builds edge no_build

-- whether an edge has the path as an input of any kind or as a validation
abbrev pub needs : List ℕ → BuildValue → Bool
needs path build = has_path (inputs_of build ++ build.validations) path

-- An edge has the path among its outputs.
abbrev pub Produces : List BuildValue → ℕ → List ℕ → Type 0
Produces builds edge path = Contains (outputs_of (build_at builds edge)) path

-- the first edge that has the path among its outputs, where the first of the list has the number `edge`
abbrev pub producer_from : ℕ → List ℕ → List BuildValue → Option ℕ
producer_from edge path [] = None
producer_from edge path (build ∷ builds) =
    if has_path (outputs_of build) path then Some edge else producer_from (edge + 1) path builds

-- the producer of a path: the first edge that has it among its outputs
abbrev pub producer_of : List BuildValue → List ℕ → Option ℕ
producer_of builds path = producer_from 0 path builds

-- whether a path stands on some build line: as an output, an input of any kind, or a validation
abbrev pub is_known : List BuildValue → List ℕ → Bool
is_known builds path = is_some (producer_of builds path) || list_any (needs path) builds

-- the first output of builds, in reading order, that an edge before it has, where `earlier` stand before the builds
abbrev pub double_after : List BuildValue → List BuildValue → Option (List ℕ)
double_after earlier [] = None
double_after earlier (build ∷ builds) =
    option_or (find (λ path. is_some (producer_of earlier path)) (outputs_of build))
    (double_after (earlier ++ build ∷ []) builds)

-- the first output, in reading order, that an earlier edge has
abbrev pub first_double : List BuildValue → Option (List ℕ)
first_double builds = double_after [] builds

-- An edge steps to the producer of a path that is an explicit, implicit or order-only input on its build line.
pub record EdgeSteps (builds : List BuildValue) (edge producer : ℕ) : Type 0 where
  pub path : List ℕ
  pub is_input : Contains (inputs_of (build_at builds edge)) path
  pub produced : producer_of builds path ≡ Some producer

-- A way of one step or more leads from one edge to another.
pub data EdgeReaches (builds : List BuildValue) : ℕ → ℕ → Type 0 where
  step : {edge other : ℕ} → EdgeSteps builds edge other → EdgeReaches builds edge other
  further : {edge middle other : ℕ} → EdgeSteps builds edge middle → EdgeReaches builds middle other
      → EdgeReaches builds edge other

-- An edge is the least that reaches itself.
pub record IsLeastOnCycle (builds : List BuildValue) (edge : ℕ) : Type 0 where
  pub is_edge : edge < length builds
  pub on_cycle : EdgeReaches builds edge edge
  pub least : (other : ℕ) → other < edge → EdgeReaches builds other other → ⊥

-- A path is the first output of the least edge that reaches itself.
pub record NamesCycle (builds : List BuildValue) (path : List ℕ) : Type 0 where
  pub edge : ℕ
  pub least : IsLeastOnCycle builds edge
  pub first_output : slice_get (outputs_of (build_at builds edge)) 0 ≡ Some path

-- the rank of an edge
abbrev pub rank_at : List ℕ → ℕ → ℕ
rank_at ranks edge = slice_index_or ranks edge 0

-- Ranks of edges: one for each, below their number, and less at the end of each step.
pub record IsRanked (builds : List BuildValue) (ranks : List ℕ) : Type 0 where
  pub one_each : length ranks ≡ length builds
  pub below : (edge : ℕ) → edge < length builds → rank_at ranks edge < length builds
  pub falls : (edge producer : ℕ) → EdgeSteps builds edge producer → rank_at ranks producer < rank_at ranks edge

-- What each graph is: that of a manifest, with few edges, no output that an earlier edge has, and ranks that fall along
-- each step.
pub record IsGraph (graph : GraphValue) : Type 0 where
  pub kept : IsManifest graph.manifest
  pub few : length graph.manifest.builds ≤ MAX_EDGES
  pub single : first_double graph.manifest.builds ≡ None
  pub ranked : IsRanked graph.manifest.builds graph.ranks

-- the slots of a pool, with its number; a pool of depth 0 has none to wait for, and a number past the last names no
-- pool
abbrev pub slots_of : ℕ → Option (List ℕ × ℕ) → Option (ℕ × ℕ)
slots_of number None = None
slots_of number (Some pool) = if pool.1 == 0 then None else Some (number, pool.1)

abbrev pub numbered_pool : List (List ℕ × ℕ) → Option ℕ → Option (ℕ × ℕ)
numbered_pool pools None = None
numbered_pool pools (Some number) = slots_of number (slice_get pools number)

-- the number and the depth of an edge's pool, unless it has none or its depth is 0
abbrev pub pool_of : ManifestValue → ℕ → Option (ℕ × ℕ)
pool_of manifest edge = numbered_pool manifest.pools (build_at manifest.builds edge).pool

-- the depth of a pool by its number, also where it is 0 or no edge uses the pool; none where there is no such pool
abbrev pub depth_of : ManifestValue → ℕ → Option ℕ
depth_of manifest number = option_map (λ (pool : List ℕ × ℕ). pool.1) (slice_get manifest.pools number)

-- for each input of an edge's build line, in order, the edge that produces it
abbrev pub input_producers : List BuildValue → BuildValue → List (Option ℕ)
input_producers builds build = map (producer_of builds) (inputs_of build)

-- the edges that each edge steps to
abbrev pub successor_lists : List BuildValue → List (List ℕ)
successor_lists builds = map (λ build. filter_map (producer_of builds) (inputs_of build)) builds
