use Rattle.std.proofs.Common.{◌≡◌, take, map}
use Rattle.std.specs.List.{filter_map}
use Rattle.rev_ranks.specs.Graph.{graph_of}
use Rattle.rev_graph.specs.Lists.{lists_of}
use Rattle.rev_graph.proofs.steps.all_successors.Given as goal

abbrev pub invariant-loop-list : goal.invariant-loop-list
invariant-loop-list l = graph_of l.all.items ≡ map (filter_map (λ producer. producer)) (lists_of (take l.list-index l.producers))
