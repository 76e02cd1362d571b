use Rattle.std.proofs.Common.{◌≡◌, take, map}
use Rattle.rev_ranks.specs.Graph.{graph_of}
use Rattle.rev_waits.specs.Waits.{passes_on}
use Rattle.rev_waits.proofs.making.phony_steps.Given as goal

abbrev pub invariant-loop-edge : goal.invariant-loop-edge
invariant-loop-edge l = graph_of l.steps.items ≡ map (passes_on l.graph.manifest.builds) (take l.edge l.graph.manifest.builds)
