use Rattle.std.proofs.Common.{◌≡◌, ◌++◌, drop, map, take}
use Rattle.rev_workers.specs.Waiting.{kept_waiting}
use Rattle.rev_workers.proofs.standing.keep_waiting.Given as goal

abbrev pub invariant-loop-standing : goal.invariant-loop-standing
invariant-loop-standing l =
    l.standings ≡ map (kept_waiting l.entries) (take l.standing-index l.fn.standings) ++ drop l.standing-index l.fn.standings
