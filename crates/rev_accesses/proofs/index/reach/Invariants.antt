use Rattle.std.proofs.Common.{◌-◌, length, suc}
use Rattle.rev_accesses.specs.declared.users.Access.{Access}
use Rattle.rev_accesses.specs.Users.{IsSame, listed}
use Rattle.rev_accesses.proofs.index.reach.Given as goal

-- the lists so far show the same
abbrev pub invariant-loop-alloc : goal.invariant-loop-alloc
invariant-loop-alloc l = (access : Access) → IsSame (listed access l.initial.index.items) (listed access l.index.items)

abbrev pub decreases-loop-alloc : goal.decreases-loop-alloc
decreases-loop-alloc l = suc l.place - length l.index.items
