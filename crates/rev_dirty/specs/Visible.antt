-- The stamp of a path as it shows through phony edges.
use Rattle.std.specs.Prelude.{ℕ, zero, suc, ◌==◌, max, List, [], ◌∷◌, ◌++◌, map, length, Option, Some, None, if◌then◌else◌}
use Rattle.rev_manifest.specs.Manifest.{BuildValue}
use Rattle.rev_graph.specs.Graph.{build_at, producer_of}
use Rattle.rev_cells.specs.State.{State, stamp_of}

-- the greatest of numbers, 0 where there is none
abbrev pub greatest : List ℕ → ℕ
greatest [] = 0
greatest (n ∷ ns) = max n (greatest ns)

-- the inputs on an edge's build line that count: explicit and implicit. A phony edge has no others, since it keeps no
-- deps.
abbrev pub line_inputs : BuildValue → List (List ℕ)
line_inputs build = build.explicit ++ build.implicit

-- what shows of a missing path: through a phony edge the greatest stamp that is seen of its inputs, and else nothing
abbrev pub seen_behind : List BuildValue → (List ℕ → ℕ) → Option ℕ → ℕ
seen_behind builds seen None = 0
seen_behind builds seen (Some edge) =
    if (build_at builds edge).phony then greatest (map seen (line_inputs (build_at builds edge))) else 0

-- what shows of a path, where `seen` is what shows of the paths behind it: its own stamp, unless it is missing
abbrev pub seen_through : List BuildValue → State → (List ℕ → ℕ) → List ℕ → ℕ
seen_through builds state seen path =
    if stamp_of state path == 0 then seen_behind builds seen (producer_of builds path) else stamp_of state path

-- what shows of a path through as many edges at most, one behind the other
abbrev pub seen_within : List BuildValue → State → ℕ → List ℕ → ℕ
seen_within builds state zero path = stamp_of state path
seen_within builds state (suc edges) path = seen_through builds state (seen_within builds state edges) path

-- The visible stamp of a path. Since no edge reaches itself, no more edges stand one behind the other than there are.
unfoldable pub visible_stamp : List BuildValue → State → List ℕ → ℕ
visible_stamp builds state path = seen_within builds state (length builds) path
