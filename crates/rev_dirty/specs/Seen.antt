-- The paths whose stamps an edge's reasons see, and the cells that hold what is asked of an edge.
use Rattle.std.specs.Prelude.{ℕ, zero, suc, List, [], ◌∷◌, ◌++◌, map, length, Option, Some, None, if◌then◌else◌}
use Rattle.std.specs.List.{flat_map}
use Rattle.rev_manifest.specs.Manifest.{BuildValue}
use Rattle.rev_graph.specs.Graph.{build_at, outputs_of, producer_of}
use Rattle.rev_cells.specs.State.{State}
use Rattle.rev_cells.specs.declared.cell.Cell.{Cell}
use Rattle.rev_cells.specs.declared.cell.Cell.TheVariants as cell
use Rattle.rev_dirty.specs.Inputs.{InputValue, inputs, paths_of, producers_in}
use Rattle.rev_dirty.specs.Reasons.{counted}
use Rattle.rev_dirty.specs.Visible.{line_inputs}

-- the paths that are seen behind a path, where `deeper` gives those behind the paths of its producer
abbrev pub behind : List BuildValue → (List ℕ → List (List ℕ)) → Option ℕ → List (List ℕ)
behind builds deeper None = []
behind builds deeper (Some edge) =
    if (build_at builds edge).phony then flat_map deeper (line_inputs (build_at builds edge)) else []

-- a path, and behind it the paths that are seen through so many phony edges at most, one behind the other
abbrev pub seen_paths_within : List BuildValue → ℕ → List ℕ → List (List ℕ)
seen_paths_within builds zero path = path ∷ []
seen_paths_within builds (suc edges) path =
    path ∷ behind builds (seen_paths_within builds edges) (producer_of builds path)

-- the paths on whose stamps a visible stamp depends
unfoldable pub seen_paths : List BuildValue → List ℕ → List (List ℕ)
seen_paths builds path = seen_paths_within builds (length builds) path

-- the cells of stamps and of built records
abbrev pub stamp_cells : List (List ℕ) → List Cell
stamp_cells paths = map cell.Stamp paths

abbrev pub built_cells : List (List ℕ) → List Cell
built_cells paths = map cell.Built paths

-- the marks of the producers of inputs
abbrev pub producer_marks : List BuildValue → List InputValue → List Cell
producer_marks builds all = map cell.Mark (producers_in builds (paths_of all))

-- the stamps that are seen of the inputs that count
abbrev pub seen_stamps : List BuildValue → List InputValue → List Cell
seen_stamps builds all = stamp_cells (flat_map (seen_paths builds) (paths_of (counted all)))

-- the deps record of an edge that keeps one
abbrev pub first_deps_cell : List (List ℕ) → List Cell
first_deps_cell [] = []
first_deps_cell (path ∷ paths) = cell.Deps path ∷ []

abbrev pub deps_cells : BuildValue → List Cell
deps_cells build = if build.keeps_deps then first_deps_cell (outputs_of build) else []

-- lists of cells one behind the other
abbrev pub joined : List (List Cell) → List Cell
joined [] = []
joined (cs ∷ rest) = cs ++ joined rest

-- what the reasons of an edge depend on
abbrev pub reason_cells : List BuildValue → State → ℕ → List (List Cell)
reason_cells builds state edge =
    producer_marks builds (inputs state (build_at builds edge))
    ∷ seen_stamps builds (inputs state (build_at builds edge)) ∷ stamp_cells (outputs_of (build_at builds edge))
    ∷ built_cells (outputs_of (build_at builds edge)) ∷ deps_cells (build_at builds edge) ∷ []
