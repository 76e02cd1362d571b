-- Which paths of edges come from dyndep files: a table of edges, paths and files.
use Rattle.std.specs.Prelude.{◌≡◌, ℕ, Bool, ◌&&◌, not, List, [], ◌∷◌, ◌++◌, Option, Some, None, bytes_eq, is_some, slice_get, option_and_then, if◌then◌else◌}
use Rattle.std.specs.List.{list_any}
use Rattle.rev_paths.specs.Paths.{place_of, with_name}
use Rattle.rev_manifest.specs.Builds.{BuildValue}
use Rattle.rev_dyndep.specs.Told.{without}
use Rattle.rev_dyndep.specs.Resolved.{speaks_of}
use Rattle.rev_dyndep.specs.declared.origins.Added.{Added}
use Rattle.rev_dyndep.specs.declared.origins.Stated.{Stated}

-- a set with further paths
abbrev pub with_names : List (List ℕ) → List (List ℕ) → List (List ℕ)
with_names [] set = set
with_names (path ∷ paths) set = with_names paths (with_name path set)

-- the inputs of an edge's own line but for validations, and its outputs, each once
abbrev pub own_inputs : BuildValue → List (List ℕ)
own_inputs build = with_names build.order_only (with_names build.implicit (with_names build.explicit []))

abbrev pub own_outputs : BuildValue → List (List ℕ)
own_outputs build = with_names build.implicit_outs (with_names build.explicit_outs [])

-- what a dyndep file adds to an edge: of the paths that its statement lists those that the edge's own line does not
abbrev pub addition : Stated → BuildValue → Added
addition stated build = record {
  file = stated.file.now;
  inputs = with_names (without (own_inputs build) stated.told.now.inputs) [];
  outputs = with_names (without (own_outputs build) stated.told.now.outputs) [];
}

-- what is added to each edge by its number; none where no statement speaks of the edge. The statements stand in the order
-- of the edges that they speak of.
abbrev pub origins_of : List Stated → List BuildValue → List (Option Added)
origins_of stated [] = []
origins_of [] (build ∷ builds) = None ∷ origins_of [] builds
origins_of (first ∷ more) (build ∷ builds) =
    if speaks_of first.told.now build then Some (addition first build) ∷ origins_of more builds
    else None ∷ origins_of (first ∷ more) builds

-- THE ENTRIES
abbrev pub added_at : List (Option Added) → ℕ → Option Added
added_at rows edge = option_and_then (λ (row : Option Added). row) (slice_get rows edge)

-- a file, where a path is among others
abbrev pub file_if : List (List ℕ) → List ℕ → List ℕ → Option (List ℕ)
file_if paths file path = if is_some (place_of path paths) then Some file else None

-- the file that adds an input to an edge, and the one that adds an output
abbrev pub input_file : List (Option Added) → ℕ → List ℕ → Option (List ℕ)
input_file rows edge path = option_and_then (λ (a : Added). file_if a.inputs a.file path) (added_at rows edge)

abbrev pub output_file : List (Option Added) → ℕ → List ℕ → Option (List ℕ)
output_file rows edge path = option_and_then (λ (a : Added). file_if a.outputs a.file path) (added_at rows edge)

-- THE LAW
-- whether a path is among others
abbrev pub is_in : List ℕ → List (List ℕ) → Bool
is_in path paths = list_any (bytes_eq path) paths

-- Paths are what a statement lists and an edge's own line does not: each path is among them where and only where the
-- statement lists it and the line does not.
abbrev pub AreAdded : List (List ℕ) → List (List ℕ) → List (List ℕ) → Type 0
AreAdded own told paths = (path : List ℕ) → is_in path paths ≡ (is_in path told && not (is_in path own))

-- of each statement and each edge
abbrev pub PathsAreAdded : Type 0
PathsAreAdded = (stated : Stated) (build : BuildValue)
    → AreAdded (build.explicit ++ build.implicit ++ build.order_only) stated.told.now.inputs (addition stated build).inputs
    × AreAdded (build.explicit_outs ++ build.implicit_outs) stated.told.now.outputs (addition stated build).outputs
