use Rattle.std.proofs.Common.{◌<◌, length, subst}
use Rattle.rev_graph.specs.Graph.{outputs_of}
use Rattle.rev_graph.proofs.GraphLemmas.{same-at}
use Rattle.rev_graph.proofs.StepLemmas.{reached-outputs}
use Rattle.rev_graph.proofs.steps.cycle_at.Goals as goal

pub first_output-requires : goal.first_output-requires
first_output-requires c =
    subst (λ build. 0 < length (outputs_of build)) (same-at c.args.edges.now c.args.edge c.index-edges-edge.result c.index-edges-edge.is c.requires.cycle.is_edge) (reached-outputs c.requires.cycle.on_cycle)
