use Rattle.std.proofs.Common.{take}
use Rattle.rev_footprint.specs.Adds.{Adds}
use Rattle.rev_footprint.specs.Behind.{stamps_behind}
use Rattle.rev_footprint.proofs.reads.add_stamps_behind.Given as goal

abbrev pub invariant-loop-edge : goal.invariant-loop-edge
invariant-loop-edge l = Adds l.initial.reads.keys l.reads.keys (stamps_behind l.graph.manifest.builds (take l.edge-index l.edges))
