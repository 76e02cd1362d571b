use Rattle.rev_ranks.specs.Certificate.{FallsBelow}
use Rattle.rev_ranks.specs.Graph.{graph_of}
use Rattle.rev_orders.proofs.order.falls.Given as goal

abbrev pub invariant-loop-node : goal.invariant-loop-node
invariant-loop-node l = FallsBelow (graph_of l.successors) l.places l.node
