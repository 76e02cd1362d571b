-- Which events are those of an edge.
use Rattle.std.specs.Prelude.{ℕ, Bool, false, ◌==◌, List, filter, Option, None, Some, option_and_then}
use Rattle.std.specs.List.{range_with_len}
use Rattle.rev_manifest.specs.Manifest.{BuildValue}
use Rattle.rev_graph.specs.Graph.{producer_of}
use Rattle.rev_events.specs.declared.event.Event.{Event}
use Rattle.rev_events.specs.declared.event.Event.TheVariants.{Start, Finish, Fail, Abort, Clean, Pass}
use Rattle.rev_history.specs.Timeline.{Timeline, event_at, last_of}

-- the edge of which an event is one, which any of its outputs names; a plan, a touch, an interrupt and a resize are of
-- none
abbrev pub edge_of_event : List BuildValue → Event → Option ℕ
edge_of_event builds (Start out job slot) = producer_of builds out
edge_of_event builds (Finish out stamps listing) = producer_of builds out
edge_of_event builds (Fail out stamps) = producer_of builds out
edge_of_event builds (Abort out stamps) = producer_of builds out
edge_of_event builds (Clean out) = producer_of builds out
edge_of_event builds (Pass out) = producer_of builds out
edge_of_event builds _ = None

abbrev pub is_edge : ℕ → Option ℕ → Bool
is_edge edge None = false
is_edge edge (Some e) = e == edge

-- the event that was accepted under a number is one of the edge
abbrev pub is_event_of : Timeline → ℕ → ℕ → Bool
is_event_of t edge n = is_edge edge (option_and_then (edge_of_event t.manifest.builds) (event_at t n))

-- the numbers of all accepted events of the edge, in rising order, also of those that were undone
abbrev pub events_of : Timeline → ℕ → List ℕ
events_of t edge = filter (is_event_of t edge) (range_with_len 1 (last_of t.accepted))
