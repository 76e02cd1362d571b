use Rattle.std.proofs.Common.{take}
use Rattle.rev_dirty.specs.Seen.{built_cells}
use Rattle.rev_footprint.specs.Adds.{Adds}
use Rattle.rev_footprint.proofs.reads.add_built.Given as goal

abbrev pub invariant-loop-path : goal.invariant-loop-path
invariant-loop-path l = Adds l.initial.reads.keys l.reads.keys (built_cells (take l.path-index l.paths))
