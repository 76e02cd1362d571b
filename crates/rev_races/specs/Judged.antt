-- Edges of which nothing is told, since what they read is not known.
use Rattle.std.specs.Prelude.{◌≡◌, ℕ, true, ◌<◌, Bool, not, ◌&&◌, ◌⊎◌, ◌↔◌, List, length, is_none}
use Rattle.std.specs.List.{range_with_len}
use Rattle.rev_manifest.specs.Manifest.{BuildValue, ManifestValue}
use Rattle.rev_graph.specs.Graph.{GraphValue, IsGraph, build_at}
use Rattle.rev_cells.specs.State.{State}
use Rattle.rev_history.specs.Timeline.{Numbered}
use Rattle.rev_races.specs.Races.{IsNotJudged, lists}

-- all edges, in rising order
abbrev pub edges_of : List BuildValue → List ℕ
edges_of builds = range_with_len 0 (length builds)

-- the edge keeps deps, and lists nothing here
abbrev pub is_unlisted : ManifestValue → State → Numbered → ℕ → Bool
is_unlisted manifest opening events edge =
    (build_at manifest.builds edge).keeps_deps && is_none (lists manifest opening events edge)

-- the edge has a command and keeps no deps
abbrev pub keeps_none : List BuildValue → ℕ → Bool
keeps_none builds edge = not (build_at builds edge).phony && not (build_at builds edge).keeps_deps

-- what is not judged is one of the two, and either is not judged
abbrev pub NotJudgedIsEither : Type 0
NotJudgedIsEither =
    (graph : GraphValue) (opening : State) (events : Numbered) (edge : ℕ) → IsGraph graph
    → edge < length graph.manifest.builds → IsNotJudged graph.manifest opening events edge
    ↔ ((is_unlisted graph.manifest opening events edge ≡ true) ⊎ (keeps_none graph.manifest.builds edge ≡ true))
