use Rattle.std.proofs.Common.{◌≡◌, take}
use Rattle.std.specs.List.{flat_map}
use Rattle.rev_history.specs.Timeline.{event_at}
use Rattle.rev_certainty.specs.Needed.{makers_if}
use Rattle.rev_certainty.proofs.needing.target_edges.Given as goal

abbrev pub invariant-loop-number : goal.invariant-loop-number
invariant-loop-number l =
    l.edges.items ≡ flat_map (λ n. makers_if l.history.timeline.manifest (event_at l.history.timeline n)) (take l.number-index l.history.timeline.kept)
