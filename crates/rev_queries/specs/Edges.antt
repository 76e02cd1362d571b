-- Edges by their outputs, and edges that wait for others.
use Rattle.std.specs.Prelude.{ℕ, ◌==◌, Bool, List, filter, length, Option}
use Rattle.std.specs.List.{list_any, range_with_len}
use Rattle.rev_filters.specs.Patterns.{matches}
use Rattle.rev_manifest.specs.Builds.{BuildValue, outputs_of}
use Rattle.rev_graph.specs.Graph.{build_at, input_producers}
use Rattle.rev_runs.specs.Edges.{is_edge}

-- an output of the edge matches a pattern, in which `*` stands for any bytes
abbrev pub has_match : List BuildValue → List ℕ → ℕ → Bool
has_match builds pattern edge = list_any (matches pattern) (outputs_of (build_at builds edge))

-- the edges with such an output, in their order
abbrev pub edges_like : List BuildValue → List ℕ → List ℕ
edges_like builds pattern = filter (has_match builds pattern) (range_with_len 0 (length builds))

-- one edge has an output of another as an explicit, implicit or order-only input
abbrev pub has_output_of : List BuildValue → ℕ → ℕ → Bool
has_output_of builds edge other = list_any (is_edge edge) (input_producers builds (build_at builds other))

-- the edges that wait for an edge itself, in their order
abbrev pub users_of : List BuildValue → ℕ → List ℕ
users_of builds edge = filter (has_output_of builds edge) (range_with_len 0 (length builds))
