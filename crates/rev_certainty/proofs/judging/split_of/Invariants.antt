use Rattle.std.proofs.Common.{◌≡◌, ◌++◌, drop}
use Rattle.rev_certainty.specs.Judged.{untaken}
use Rattle.rev_certainty.proofs.judging.split_of.Given as goal

abbrev pub invariant-loop-obstacle : goal.invariant-loop-obstacle
invariant-loop-obstacle l =
    l.left.items ++ untaken l.places l.trust.lines.items (drop l.obstacle-index l.obstacles) ≡ untaken l.places l.trust.lines.items l.obstacles
