use Rattle.std.proofs.Common.{◌≡◌}
use Rattle.rev_events.specs.Pools.{first_held, slots_between}
use Rattle.rev_events.proofs.pools.first_held.Given as goal

abbrev pub invariant-loop-slot : goal.invariant-loop-slot
invariant-loop-slot l = first_held l.cells.state l.pool (slots_between l.fn.slots.start l.fn.slots.end) ≡ first_held l.cells.state l.pool (slots_between l.slot l.slot-end)
