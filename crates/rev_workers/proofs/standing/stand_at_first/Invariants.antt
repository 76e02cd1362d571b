use Rattle.std.proofs.Common.{take}
use Rattle.std.specs.List.{AllByRecursion}
use Rattle.rev_workers.specs.Waiting.{IsOutOfWay}
use Rattle.rev_workers.proofs.standing.stand_at_first.Given as goal

abbrev pub invariant-loop-standing : goal.invariant-loop-standing
invariant-loop-standing g l = AllByRecursion IsOutOfWay (take l.standing-index l.standings)

abbrev pub invariant-loop-lane : goal.invariant-loop-lane
invariant-loop-lane g l = AllByRecursion IsOutOfWay l.standings
