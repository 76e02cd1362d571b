use Rattle.std.proofs.Common.{Option, IfSome, subst, sym}
use Rattle.std.specs.List.{All}
use Rattle.std.proofs.lemmas.List.Elements.{All-push}
use Rattle.rev_ranks.specs.Graph.{graph_of}
use Rattle.rev_orders.specs.declared.order.Order.{Order}
use Rattle.rev_orders.specs.Orders.{IsOrder}
use Rattle.rev_orders.proofs.choosing.orders_behind.Goals as goal

pub loop-preserved : goal.loop-preserved
loop-preserved c =
    let P : Order → Type 0 = λ (o : Order). IsOrder (graph_of c.args.successors.now) o.nodes.items o.places.items in
    let found : P c.in-Some.order = subst (λ (o : Option Order). IfSome o P) c.in-Some.is c.in_ok-order.ensures in
    subst (All P) (sym c.in_ok-push.ensures.items) (All-push P c.loop.others.items c.in-Some.order c.loop.invariant found)
