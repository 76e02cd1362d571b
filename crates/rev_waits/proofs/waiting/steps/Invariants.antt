use Rattle.std.proofs.Common.{◌≡◌, take, map}
use Rattle.std.specs.List.{filter_map}
use Rattle.rev_ranks.specs.Graph.{graph_of}
use Rattle.rev_graph.specs.Graph.{inputs_of, producer_of}
use Rattle.rev_waits.proofs.waiting.steps.Given as goal

abbrev pub invariant-loop-edge : goal.invariant-loop-edge
invariant-loop-edge l =
    graph_of l.steps.items ≡ map (λ build. filter_map (producer_of l.graph.manifest.builds) (inputs_of build)) (take l.edge l.graph.manifest.builds)
