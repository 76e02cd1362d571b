use Rattle.std.proofs.Common.{◌-◌, [], ◌∷◌, length}
use Rattle.std.specs.Ordering.{nat_cmp}
use Rattle.rev_accesses.specs.Closing.{cone_behind}
use Rattle.rev_accesses.proofs.Closing.{IsClosing}
use Rattle.rev_history.specs.Steps.{place_prints}
use Rattle.rev_history.proofs.closing.cone.Given as goal

-- the members so far, and what is pending
abbrev pub invariant-loop-member : goal.invariant-loop-member
invariant-loop-member l = IsClosing (place_prints l.accepted.entries l.steps) l.kept l.number l.members.items l.pending

-- the members that are still to come
abbrev pub decreases-loop-member : goal.decreases-loop-member
decreases-loop-member l = length (l.number ∷ cone_behind nat_cmp l.number (place_prints l.accepted.entries l.steps) (l.number ∷ []) l.kept) - length l.members.items
