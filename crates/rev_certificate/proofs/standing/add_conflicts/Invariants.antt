use Rattle.std.proofs.Common.{◌≡◌, ◌++◌, map, take}
use Rattle.rev_certificate.specs.declared.obstacle.Obstacle.TheVariants as obstacle
use Rattle.rev_certificate.proofs.standing.add_conflicts.Given as goal

abbrev pub invariant-loop-conflict : goal.invariant-loop-conflict
invariant-loop-conflict l = l.obstacles.items ≡ l.initial.obstacles.items ++ map obstacle.Conflict (take l.conflict-index l.conflicts)
