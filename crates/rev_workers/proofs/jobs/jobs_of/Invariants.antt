use Rattle.std.proofs.Common.{◌≡◌, ◌++◌, map}
use Rattle.std.specs.Vec.Iter.{into_iter_items}
use Rattle.rev_workers.specs.Running.{pair_up}
use Rattle.rev_workers.proofs.jobs.jobs_of.Given as goal

abbrev pub invariant-loop-lane : goal.invariant-loop-lane
invariant-loop-lane g l =
    l.jobs.items ++ pair_up (into_iter_items l.lane-iterator) (map (λ v. v.items) (into_iter_items l.lists)) ≡ pair_up l.fn.lanes.items (map (λ v. v.items) l.fn.lists.items)
