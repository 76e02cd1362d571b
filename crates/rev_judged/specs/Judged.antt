-- Commands of a recording that left no list of what they read, and those among them that only collect outputs.
use Rattle.std.specs.Prelude.{ℕ, ◌==◌, Bool, true, false, not, ◌&&◌, ◌||◌, if◌then◌else◌, List, [], map, length, is_none, is_some}
use Rattle.std.specs.List.{list_any, filter_map}
use Rattle.rev_graph.specs.Graph.{build_at, input_producers}
use Rattle.rev_history.specs.Timeline.{Timeline, kept_events}
use Rattle.rev_manifest.specs.Manifest.{BuildValue}
use Rattle.rev_races.specs.Judged.{edges_of}
use Rattle.rev_races.specs.Races.{lists, started}
use Rattle.rev_ranks.specs.Sets.{is_marked_or_leads}

-- an edge lists what its command read
abbrev pub has_list : Timeline → ℕ → Bool
has_list t edge = is_some (lists t.manifest t.opening (kept_events t) edge)

-- AN EDGE THAT ONLY COLLECTS OUTPUTS
-- an edge takes something else than outputs, by its build line: it has no input, or one that no edge makes, or, with a
-- command, an order-only input
abbrev pub takes_others : List BuildValue → BuildValue → Bool
takes_others builds build =
    length (input_producers builds build) == 0
    || (list_any is_none (input_producers builds build) || (not build.phony && not (length build.order_only == 0)))

-- an edge without a list does
abbrev pub is_open : Timeline → ℕ → Bool
is_open t edge = not (has_list t edge) && takes_others t.manifest.builds (build_at t.manifest.builds edge)

-- where an edge without a list has its inputs from; what has a list is asked no further
abbrev pub sources_of : Timeline → ℕ → List ℕ
sources_of t edge =
    if has_list t edge then []
    else filter_map (λ producer. producer) (input_producers t.manifest.builds (build_at t.manifest.builds edge))

-- An edge takes something else than outputs, or a way through edges without a list leads from it to one that does. Else
-- it only collects outputs: each of its inputs is made by an edge with a list, or by one that only collects outputs.
abbrev pub takes_from_others : Timeline → ℕ → Bool
takes_from_others t edge =
    is_marked_or_leads (map (sources_of t) (edges_of t.manifest.builds))
    (map (is_open t) (edges_of t.manifest.builds)) edge

-- of two, both hold or both do not
abbrev pub alike : Bool → Bool → Bool
alike true other = other
alike false other = not other

-- what is not judged: with `others` the edges that take something else, and else those that only collect outputs
abbrev pub counts : Bool → Bool → Bool → Bool → Bool
counts began listed taking others = began && not listed && alike taking others

abbrev pub is_unjudged_as : Timeline → Bool → ℕ → Bool
is_unjudged_as t others edge =
    counts (started t.manifest edge (kept_events t)) (has_list t edge) (takes_from_others t edge) others
