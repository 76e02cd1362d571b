use Rattle.std.proofs.Common.{◌≡◌, ◌++◌}
use Rattle.std.specs.Vec.Iter.{into_iter_items}
use Rattle.rev_workers.specs.Running.{lanes_in}
use Rattle.rev_workers.proofs.jobs.lanes_of.Given as goal

abbrev pub invariant-loop-lane : goal.invariant-loop-lane
invariant-loop-lane g l = l.lanes.items ++ lanes_in (into_iter_items l.lane-iterator) ≡ lanes_in l.fn.done.items
