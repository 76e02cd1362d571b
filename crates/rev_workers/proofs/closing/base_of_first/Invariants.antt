use Rattle.std.proofs.Common.{◌≡◌, drop}
use Rattle.rev_workers.specs.Closing.{base_in}
use Rattle.rev_workers.proofs.closing.base_of_first.Given as goal

abbrev pub invariant-loop-lane : goal.invariant-loop-lane
invariant-loop-lane g l = base_in (drop l.lane-index l.lanes) ≡ base_in l.fn.lanes
