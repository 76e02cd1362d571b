use Rattle.std.proofs.Common.{◌≡◌}
use Rattle.std.specs.List.{filter_map, range_with_len}
use Rattle.rev_history.specs.Timeline.{state_at}
use Rattle.rev_queries.specs.Readings.{reading_at}
use Rattle.rev_queries.proofs.reading.readings.Given as goal

-- those of the edges so far
abbrev pub invariant-loop-edge : goal.invariant-loop-edge
invariant-loop-edge l =
    l.readings.items ≡ filter_map (reading_at l.history.timeline.manifest.builds (state_at l.history.timeline) l.names)
    (range_with_len 0 l.edge)
