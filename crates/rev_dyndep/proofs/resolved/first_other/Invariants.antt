use Rattle.std.proofs.Common.{◌≡◌, length}
use Rattle.rev_dyndep.specs.Resolved.{are_resolved}
use Rattle.rev_dyndep.proofs.resolved.first_other.Given as goal

-- what is left to show is what was to be shown
abbrev pub invariant-loop-edge : goal.invariant-loop-edge
invariant-loop-edge l = are_resolved l.statements l.edges l.others ≡ are_resolved l.fn.told l.fn.plain l.fn.found

abbrev pub decreases-loop-edge : goal.decreases-loop-edge
decreases-loop-edge l = length l.edges
