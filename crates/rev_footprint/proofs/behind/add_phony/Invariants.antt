use Rattle.std.proofs.Common.{take}
use Rattle.rev_footprint.specs.Behind.{phony_among, Grows}
use Rattle.rev_footprint.proofs.behind.add_phony.Given as goal

abbrev pub invariant-loop-producer : goal.invariant-loop-producer
invariant-loop-producer l = Grows l.initial.edges.keys l.edges.keys (phony_among l.graph.manifest.builds (take l.producer-index l.producers))
