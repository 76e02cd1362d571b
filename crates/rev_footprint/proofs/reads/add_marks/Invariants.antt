use Rattle.std.proofs.Common.{take, map}
use Rattle.std.specs.List.{filter_map}
use Rattle.rev_cells.specs.declared.cell.Cell.TheVariants.{Mark}
use Rattle.rev_footprint.specs.Adds.{Adds}
use Rattle.rev_footprint.proofs.reads.add_marks.Given as goal

abbrev pub invariant-loop-producer : goal.invariant-loop-producer
invariant-loop-producer l = Adds l.initial.reads.keys l.reads.keys (map Mark (filter_map (λ producer. producer) (take l.producer-index l.producers)))
