use Rattle.std.proofs.Common.{◌≡◌, ◌≤◌, length, drop}
use Rattle.rev_causal.specs.Chosen.{IsRising}
use Rattle.rev_numbers.specs.Taken.{without_all}
use Rattle.rev_numbers.proofs.sorted.take_by_one.Given as goal

-- the members from the place on are out
abbrev pub invariant-loop-left : goal.invariant-loop-left
invariant-loop-left l =
    (l.left ≤ length l.members) × IsRising l.numbers.items × (l.numbers.items ≡ without_all (drop l.left l.members) l.initial.numbers.items)

abbrev pub decreases-loop-left : goal.decreases-loop-left
decreases-loop-left l = l.left
