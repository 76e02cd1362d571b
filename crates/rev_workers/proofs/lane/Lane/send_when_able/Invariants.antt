use Rattle.std.proofs.Common.{◌≡◌}
use Rattle.rev_workers.proofs.lane.Lane.send_when_able.Given as goal

abbrev pub invariant-loop : goal.invariant-loop
invariant-loop g l =
    (goal.iterator-loop g).can_next l.iterator' × (goal.iterator-loop g).is_finite l.iterator'
    × (l.self ≡ l.fn.self) × (l.command ≡ l.fn.command)
