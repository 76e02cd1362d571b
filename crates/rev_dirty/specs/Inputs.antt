-- The inputs of an edge in a state.
use Rattle.std.specs.Prelude.{ℕ, Bool, true, false, List, [], ◌∷◌, ◌++◌, map, Option, Some, None, if◌then◌else◌}
use Rattle.std.specs.List.{filter_map}
use Rattle.rev_manifest.specs.Manifest.{BuildValue}
use Rattle.rev_graph.specs.Graph.{outputs_of, producer_of}
use Rattle.rev_cells.specs.State.{State, deps_of}
use Rattle.rev_cells.specs.declared.value.DepsRecord.{DepsRecord}
use Rattle.rev_dirty.specs.declared.input.InputKind.{InputKind}
use Rattle.rev_dirty.specs.declared.input.InputKind.TheVariants.{OnLine, OrderOnly, Listed}

-- an input of an edge: its path, and where it stands
pub record InputValue : Type 0 where
  pub path : List ℕ
  pub kind : InputKind

abbrev pub an : InputKind → List ℕ → InputValue
an kind path = record { path = path; kind = kind }

-- the deps log's record of the first of paths
abbrev pub first_deps : State → List (List ℕ) → Option DepsRecord
first_deps state [] = None
first_deps state (path ∷ paths) = deps_of state path

-- the record that lists an edge's further inputs: that of its first output, where the edge keeps deps
abbrev pub deps_record : State → BuildValue → Option DepsRecord
deps_record state build = if build.keeps_deps then first_deps state (outputs_of build) else None

abbrev pub paths_in : Option DepsRecord → List (List ℕ)
paths_in None = []
paths_in (Some deps) = deps.paths

-- the inputs of an edge: explicit, implicit, order-only, and then those that its deps record lists
abbrev pub inputs : State → BuildValue → List InputValue
inputs state build =
    map (an OnLine) (build.explicit ++ build.implicit) ++ map (an OrderOnly) build.order_only
    ++ map (an Listed) (paths_in (deps_record state build))

-- Order-only inputs come first and are no reason to run (Ninja manual, order-only dependencies); all others count.
abbrev pub counts : InputKind → Bool
counts OrderOnly = false
counts _ = true

abbrev pub is_listed : InputKind → Bool
is_listed Listed = true
is_listed _ = false

-- the paths of inputs
abbrev pub paths_of : List InputValue → List (List ℕ)
paths_of all = map (λ (input : InputValue). input.path) all

-- the edges that produce some of these paths
abbrev pub producers_in : List BuildValue → List (List ℕ) → List ℕ
producers_in builds paths = filter_map (producer_of builds) paths
