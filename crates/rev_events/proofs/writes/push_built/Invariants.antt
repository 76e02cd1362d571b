use Rattle.std.proofs.Common.{take}
use Rattle.rev_events.specs.Edge.{Adds, write_built}
use Rattle.rev_events.proofs.writes.push_built.Given as goal

abbrev pub invariant-loop-place : goal.invariant-loop-place
invariant-loop-place l = Adds l.initial.writes.items l.writes.items (write_built l.command l.seen (take l.place l.outputs) l.flags l.stamps)
