use Rattle.std.proofs.Common.{take}
use Rattle.rev_events.specs.Edge.{Adds, write_stamps}
use Rattle.rev_events.proofs.writes.push_stamps.Given as goal

abbrev pub invariant-loop-place : goal.invariant-loop-place
invariant-loop-place l = Adds l.initial.writes.items l.writes.items (write_stamps (take l.place l.outputs) l.stamps)
