use Rattle.std.proofs.Common.{◌≡◌, ◌++◌, map, take}
use Rattle.rev_dirty.specs.declared.walk.Task.TheVariants.{Enter}
use Rattle.rev_dirty.proofs.walk.push_entered.Given as goal

abbrev pub invariant-loop-edge : goal.invariant-loop-edge
invariant-loop-edge l = l.tasks.items ≡ l.initial.tasks.items ++ map Enter (take l.edge-index l.edges)
