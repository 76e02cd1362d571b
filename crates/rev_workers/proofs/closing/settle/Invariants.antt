use Rattle.std.proofs.Common.{◌≡◌, ◌+◌, ◌≤◌, length}
use Rattle.rev_workers.specs.Closing.{entries_of}
use Rattle.rev_workers.proofs.closing.settle.Given as goal

abbrev pub invariant-loop-lane : goal.invariant-loop-lane
invariant-loop-lane g l =
    record {
      parts : l.all.parts + length l.lanes.items ≡ length l.fn.lanes.items;
      amount : l.all.amount + entries_of l.lanes.items ≡ entries_of l.fn.lanes.items;
      few : l.all.parts ≤ g.L.Ledger.parts;
    }

abbrev pub decreases-loop-lane : goal.decreases-loop-lane
decreases-loop-lane g l = length l.lanes.items
