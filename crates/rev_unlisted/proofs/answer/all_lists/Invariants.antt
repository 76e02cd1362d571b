use Rattle.std.proofs.Common.{◌≡◌, ℕ, [], map}
use Rattle.std.specs.Prelude.{unwrap_or}
use Rattle.std.specs.List.{range_with_len}
use Rattle.rev_history.specs.Timeline.{kept_events}
use Rattle.rev_races.specs.Races.{lists}
use Rattle.rev_unlisted.specs.Found.{names_of}
use Rattle.rev_unlisted.proofs.answer.all_lists.Given as goal

abbrev pub invariant-loop-edge : goal.invariant-loop-edge
invariant-loop-edge l =
    names_of l.lists.items
    ≡ map (λ (edge : ℕ). unwrap_or (lists l.history.timeline.manifest l.history.timeline.opening (kept_events l.history.timeline) edge) []) (range_with_len 0 l.edge)
