use Rattle.std.proofs.Common.{◌≤◌, length}
use Rattle.rev_history.proofs.RemovalLemmas.{IsPartlyOut}
use Rattle.rev_history.proofs.removal.put_all_back.Given as goal

-- the members from the place on are out
abbrev pub invariant-loop-left : goal.invariant-loop-left
invariant-loop-left l =
    (l.left ≤ length l.members) × IsPartlyOut l.members l.left l.accepted.entries l.initial.steps.items l.initial.cells l.steps.items l.cells

abbrev pub decreases-loop-left : goal.decreases-loop-left
decreases-loop-left l = l.left
