use Rattle.rev_schedule.proofs.FirstLemmas.{AreFirst}
use Rattle.rev_schedule.proofs.schedule.first_turns.Given as goal

abbrev pub invariant-loop-edge : goal.invariant-loop-edge
invariant-loop-edge l = AreFirst l.build l.edge l.turns.items
