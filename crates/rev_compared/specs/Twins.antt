-- Edges of two manifests that are one: those with the same first output.
use Rattle.std.specs.Prelude.{ℕ, Bool, false, List, length, map, Option, None, Some, bytes_eq, option_and_then, if◌then◌else◌}
use Rattle.std.specs.List.{range_with_len}
use Rattle.rev_manifest.specs.Builds.{BuildValue}
use Rattle.rev_graph.specs.Graph.{producer_of}
use Rattle.rev_shown.specs.Cells.{first_output}

abbrev pub is_name : List ℕ → Option (List ℕ) → Bool
is_name out None = false
is_name out (Some found) = bytes_eq found out

-- an edge, where its first output is this one
abbrev pub with_first : List BuildValue → List ℕ → ℕ → Option ℕ
with_first builds out edge = if is_name out (first_output builds edge) then Some edge else None

-- THE TWIN of an edge: the edge that makes its first output there, and makes it first
abbrev pub twin_of : List BuildValue → List BuildValue → ℕ → Option ℕ
twin_of builds others edge =
    option_and_then (λ out. option_and_then (with_first others out) (producer_of others out)) (first_output builds edge)

-- the twins of all edges, in their order
abbrev pub twins_of : List BuildValue → List BuildValue → List (Option ℕ)
twins_of builds others = map (twin_of builds others) (range_with_len 0 (length builds))
