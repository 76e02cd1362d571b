-- What stands in the way of certainty.
use Rattle.std.specs.Prelude.{ℕ, ◌==◌, Bool, not, ◌&&◌, ◌||◌, List, [], ◌∷◌, ◌++◌, length, map, Option, Some, None, slice_index_or, if◌then◌else◌}
use Rattle.std.specs.List.{filter_map, flat_map, list_any, range_with_len}
use Rattle.rev_manifest.specs.Builds.{BuildValue}
use Rattle.rev_graph.specs.Graph.{build_at}
use Rattle.rev_ranks.specs.Sets.{is_marked}
use Rattle.rev_observation.specs.Blocks.{new_command}
use Rattle.rev_observation.specs.Observations.{ObservationValue}
use Rattle.rev_entry_conflicts.specs.declared.conflict.Conflict.{Conflict}
use Rattle.rev_certificate.specs.declared.obstacle.Obstacle.{Obstacle}
use Rattle.rev_certificate.specs.declared.obstacle.Obstacle.TheVariants as obstacle

-- THE OBSERVATION
abbrev pub of_observation : ObservationValue → List Obstacle
of_observation o = if o.is_complete then [] else obstacle.Incomplete ∷ []

-- EDGES
-- The command of the edge did not end well: one that the targets need, which is neither phony nor early, or one that
-- began.
abbrev pub lacks_end : Bool → Bool → Bool → Bool → Bool → Bool
lacks_end needed phony early began ended = not ended && (began || (needed && (not phony && not early)))

-- what stands in the way of an edge, by what is known of it: the first of these
abbrev pub edge_obstacle : Bool → Bool → Bool → Bool → Bool → Bool → ℕ → Option Obstacle
edge_obstacle needed phony early began ended seen edge =
    if lacks_end needed phony early began ended then Some (obstacle.NotEnded edge)
    else if began && early then Some (obstacle.Early edge)
    else if began && not seen then Some (obstacle.Unseen edge) else None

-- a command of the edge is in the observation, of whose commands these are the edges
abbrev pub is_seen : List ℕ → ℕ → Bool
is_seen edges edge = list_any (λ e. e == edge) edges

abbrev pub of_edge : List BuildValue → List ℕ → List Bool → List Bool → List Bool → List Bool → ℕ → Option Obstacle
of_edge builds edges early needed began ended edge =
    edge_obstacle (is_marked needed edge) (build_at builds edge).phony (is_marked early edge) (is_marked began edge)
    (is_marked ended edge) (is_seen edges edge) edge

abbrev pub of_edges : List BuildValue → List ℕ → List Bool → List Bool → List Bool → List Bool → List Obstacle
of_edges builds edges early needed began ended =
    filter_map (of_edge builds edges early needed began ended) (range_with_len 0 (length builds))

-- FLAGS
-- each flag of a command, by its number
abbrev pub of_flags : ℕ → ℕ → List Obstacle
of_flags command count = map (obstacle.Flagged command) (range_with_len 0 count)

abbrev pub of_command : ObservationValue → ℕ → List Obstacle
of_command o number = of_flags number (length (slice_index_or o.commands number (new_command [])).flags)

abbrev pub of_commands : ObservationValue → List Obstacle
of_commands o = flat_map (of_command o) (range_with_len 0 (length o.commands))

-- ALL
-- All that stands in the way: of the observation, of edges, of flags and of conflicts.
abbrev pub obstacles : List BuildValue → ObservationValue → List ℕ → List Bool → List Bool → List Bool → List Bool
    → List Conflict → List Obstacle
obstacles builds o edges early needed began ended conflicts =
    of_observation o ++ of_edges builds edges early needed began ended ++ of_commands o
    ++ map obstacle.Conflict conflicts
