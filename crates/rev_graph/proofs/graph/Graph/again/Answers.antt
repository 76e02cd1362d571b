use Rattle.rev_graph.specs.Sound.{value_of}
use Rattle.rev_graph.proofs.AlikeLemmas.{only_memory}
use Rattle.rev_graph.proofs.graph.Graph.again.Goals as goal

-- a graph's manifest has no fault
pub unreachable-requires : goal.unreachable-requires
unreachable-requires c = c.in_default.not-Memory (only_memory (value_of c.self.inside) c.self.invariant.graph c.in-Err.fault c.in-Err.ensures.fault)
