use Rattle.std.proofs.Common.{◌≡◌, ◌++◌, take}
use Rattle.std.specs.List.{flat_map}
use Rattle.rev_history.specs.Timeline.{event_at}
use Rattle.rev_witness.specs.Words.{event_line}
use Rattle.rev_witness.proofs.text.push_kept.Given as goal

abbrev pub invariant-loop-number : goal.invariant-loop-number
invariant-loop-number l =
    l.text.items ≡ l.initial.text.items
    ++ flat_map (λ n. event_line (event_at l.history.timeline n)) (take l.number-index l.history.timeline.kept)
