use Rattle.std.proofs.Common.{take}
use Rattle.rev_history.specs.Steps.{place_prints}
use Rattle.rev_history.proofs.RemovalLemmas.{AreGone}
use Rattle.rev_history.proofs.removal.remove_members.Given as goal

-- the members so far are gone
abbrev pub invariant-loop-member : goal.invariant-loop-member
invariant-loop-member l =
    AreGone l.members (place_prints l.accepted.entries l.steps) (take l.member-index l.members) l.initial.accesses l.accesses
