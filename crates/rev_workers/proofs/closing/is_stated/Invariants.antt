use Rattle.std.proofs.Common.{◌≡◌, ◌↔◌, drop}
use Rattle.std.specs.List.{AllByRecursion}
use Rattle.rev_workers.specs.Closing.{part}
use Rattle.rev_workers.specs.Tracks.{Track}
use Rattle.rev_workers.proofs.closing.is_stated.Given as goal

abbrev pub invariant-loop-lane : goal.invariant-loop-lane
invariant-loop-lane g l =
    AllByRecursion (λ (t : Track). t.number ≡ l.number → t.list ≡ part l.number l.entries) (drop l.lane-index l.lanes)
    ↔ AllByRecursion (λ (t : Track). t.number ≡ l.number → t.list ≡ part l.number l.entries) l.fn.lanes
