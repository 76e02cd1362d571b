use Rattle.std.proofs.Common.{take}
use Rattle.std.specs.List.{range_with_len}
use Rattle.rev_events.specs.Edge.{Adds}
use Rattle.rev_events.specs.Machine.{write_marks}
use Rattle.rev_events.proofs.writes.push_marks.Given as goal

abbrev pub invariant-loop-edge : goal.invariant-loop-edge
invariant-loop-edge l = Adds l.initial.writes.items l.writes.items (write_marks (range_with_len 0 l.edge) (take l.edge l.marks))
