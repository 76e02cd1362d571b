use Rattle.std.proofs.Common.{◌≡◌, ◌++◌, drop, map}
use Rattle.rev_workers.specs.Tracks.{Track}
use Rattle.rev_workers.proofs.jobs.numbers_of.Given as goal

abbrev pub invariant-loop-lane : goal.invariant-loop-lane
invariant-loop-lane g l =
    l.numbers.items ++ map (λ (t : Track). t.number) (drop l.lane-index l.lanes) ≡ map (λ (t : Track). t.number) l.fn.lanes
