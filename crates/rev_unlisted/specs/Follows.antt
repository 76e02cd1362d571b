-- What makes Ninja run an edge again.
use Rattle.std.specs.Prelude.{ℕ, ◌+◌, Bool, not, ◌&&◌, List, [], ◌++◌, map, length, filter, replicate, slice_index_or}
use Rattle.std.specs.List.{filter_map, range_with_len}
use Rattle.std.specs.Option.{option_map}
use Rattle.rev_paths.specs.Paths.{place_of}
use Rattle.rev_manifest.specs.Manifest.{BuildValue}
use Rattle.rev_graph.specs.Graph.{build_at, producer_of}

-- What counts for an edge: its explicit and implicit inputs, and what it lists. Order-only inputs do not: they come
-- first, and are no reason to run. `lists` has for each edge what it lists.
abbrev pub counted_of : List BuildValue → List (List (List ℕ)) → ℕ → List (List ℕ)
counted_of builds lists edge =
    (build_at builds edge).explicit ++ (build_at builds edge).implicit ++ slice_index_or lists edge []

-- The edges that make what counts for an edge; of the sure ones those alone without restat, since Ninja may find that
-- the others changed nothing.
abbrev pub makers_of : List BuildValue → Bool → List (List ℕ) → List ℕ
makers_of builds sure names =
    filter (λ maker. not (sure && (build_at builds maker).restat)) (filter_map (producer_of builds) names)

-- the numbers of paths, behind those of the edges
abbrev pub path_nodes : ℕ → List (List ℕ) → List (List ℕ) → List ℕ
path_nodes count paths names = filter_map (λ name. option_map (λ path. count + path) (place_of name paths)) names

abbrev pub follow_of : List BuildValue → List (List (List ℕ)) → List (List ℕ) → Bool → ℕ → List ℕ
follow_of builds lists paths sure edge =
    makers_of builds sure (counted_of builds lists edge)
    ++ path_nodes (length builds) paths (counted_of builds lists edge)

-- The graph of what makes Ninja run an edge again: each edge steps to the edges that make what counts for it, and to
-- the paths that count for it, of those that commands have to do with. Path p is the node behind the edges' and p
-- others.
abbrev pub follow_lists : List BuildValue → List (List (List ℕ)) → List (List ℕ) → Bool → List (List ℕ)
follow_lists builds lists paths sure =
    map (follow_of builds lists paths sure) (range_with_len 0 (length builds)) ++ replicate (length paths) []
