use Rattle.rev_orders.proofs.WaitLemmas.{is_order}
use Rattle.rev_orders.proofs.order.is_order.Goals as goal

pub returns : goal.returns
returns c = is_order c.args.successors.now c.args.nodes.now c.args.places.now c.if-nodes-successors.false c.if-places-successors.false c.if-not-leads_back.ensures c.if-not-leads_back-2.ensures c.if-not-falls.ensures
