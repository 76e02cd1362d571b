-- What stands in the way, by the marks of an edge.
use Rattle.std.specs.Prelude.{ℕ, Bool, not, ◌&&◌, List}
use Rattle.rev_manifest.specs.Manifest.{BuildValue}
use Rattle.rev_graph.specs.Graph.{build_at}
use Rattle.rev_ranks.specs.Sets.{is_marked}
use Rattle.rev_conflicts.specs.Conflicts.{runs_first}

-- needed, and not phony, and neither early nor ended
abbrev pub is_missing_by : Bool → Bool → Bool → Bool → Bool
is_missing_by needed phony early ended = (needed && not phony) && (not early && not ended)

-- begun, and not ended, later than the manifest, and seen whole
abbrev pub is_unsure_by : Bool → Bool → Bool → Bool → Bool
is_unsure_by began ended early whole = began && not (ended && (not early && whole))

-- The targets need the edge, it makes nothing that the manifest is read from, and its command did not end well here.
-- Marks say which edges the targets need, and which ended well.
abbrev pub missing_in : List BuildValue → List (List ℕ) → List Bool → List Bool → ℕ → Bool
missing_in builds files needed ended edge =
    is_missing_by (is_marked needed edge) (build_at builds edge).phony (runs_first builds files edge)
    (is_marked ended edge)

-- The command began here, and did not end well, makes what the manifest is read from, or was not observed whole. Marks say
-- which began, which ended well, and which were observed whole.
abbrev pub unsure_in : List BuildValue → List (List ℕ) → List Bool → List Bool → List Bool → ℕ → Bool
unsure_in builds files began ended whole edge =
    is_unsure_by (is_marked began edge) (is_marked ended edge) (runs_first builds files edge) (is_marked whole edge)
