use Rattle.std.proofs.Common.{◌≡◌, take, map}
use Rattle.rev_ranks.specs.Graph.{graph_of}
use Rattle.rev_certainty.specs.Needed.{needs_of}
use Rattle.rev_certainty.proofs.needing.needed_steps.Given as goal

abbrev pub invariant-loop-edge : goal.invariant-loop-edge
invariant-loop-edge l = graph_of l.steps.items ≡ map (needs_of l.graph.manifest.builds) (take l.edge l.graph.manifest.builds)
