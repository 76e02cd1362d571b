use Rattle.std.proofs.Common.{◌≡◌, map}
use Rattle.std.specs.List.{range_with_len}
use Rattle.rev_cells.specs.declared.cell.Cell.TheVariants.{Mark}
use Rattle.rev_footprint.proofs.writes.plan_writes.Given as goal

abbrev pub invariant-loop-edge : goal.invariant-loop-edge
invariant-loop-edge l = l.writes.items ≡ map Mark (range_with_len 0 l.edge)
