use Rattle.rev_ranks.specs.Graph.{graph_of}
use Rattle.rev_orders.specs.Pairs.{places_of, AreCounts}
use Rattle.rev_orders.proofs.counting.counted.Given as goal

abbrev pub invariant-loop-place : goal.invariant-loop-place
invariant-loop-place l = AreCounts (graph_of l.successors) l.commands l.first.nodes.items l.first.places.items (places_of l.others) l.place l.unordered l.left.items
