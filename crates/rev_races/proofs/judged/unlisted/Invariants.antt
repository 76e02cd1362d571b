use Rattle.std.proofs.Common.{◌≡◌}
use Rattle.std.specs.Prelude.{filter}
use Rattle.std.specs.List.{range_with_len}
use Rattle.rev_history.specs.Timeline.{kept_events}
use Rattle.rev_races.specs.Judged.{is_unlisted}
use Rattle.rev_races.proofs.judged.unlisted.Given as goal

abbrev pub invariant-loop-edge : goal.invariant-loop-edge
invariant-loop-edge l =
    l.edges.items ≡ filter (is_unlisted l.history.timeline.manifest l.history.timeline.opening (kept_events l.history.timeline)) (range_with_len 0 l.edge)
