use Rattle.std.proofs.Common.{◌-◌, ◌≤◌, map}
use Rattle.std.specs.List.{range_with_len}
use Rattle.rev_cells.specs.declared.cell.Cell.TheVariants as cell
use Rattle.rev_footprint.specs.Adds.{Adds}
use Rattle.rev_footprint.proofs.of_event.add_slots.Given as goal

abbrev pub invariant-loop-slot : goal.invariant-loop-slot
invariant-loop-slot l =
    Adds l.initial.reads.keys l.reads.keys (map (cell.Slot l.fn.pool) (range_with_len l.fn.slots.start (l.slot - l.fn.slots.start)))
    × (l.slot - l.fn.slots.start ≤ l.fn.slots.end - l.fn.slots.start)
