use Rattle.std.specs.List.{All}
use Rattle.rev_ranks.specs.Graph.{graph_of}
use Rattle.rev_orders.specs.declared.order.Order.{Order}
use Rattle.rev_orders.specs.Orders.{IsOrder}
use Rattle.rev_orders.proofs.choosing.orders_behind.Given as goal

abbrev pub invariant-loop : goal.invariant-loop
invariant-loop l = All (λ (o : Order). IsOrder (graph_of l.successors) o.nodes.items o.places.items) l.others.items
