use Rattle.std.proofs.Common.{take}
use Rattle.rev_dirty.specs.Seen.{stamp_cells}
use Rattle.rev_footprint.specs.Adds.{Adds}
use Rattle.rev_footprint.proofs.reads.add_stamps.Given as goal

abbrev pub invariant-loop-path : goal.invariant-loop-path
invariant-loop-path l = Adds l.initial.reads.keys l.reads.keys (stamp_cells (take l.path-index l.paths))
