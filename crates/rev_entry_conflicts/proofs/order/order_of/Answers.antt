use Rattle.rev_entry_conflicts.proofs.OrderLemmas.{order-is}
use Rattle.rev_entry_conflicts.proofs.order.order_of.Goals as goal

pub returns : goal.returns
returns c =
    order-is c.args.steps.now c.args.back.now c.args.edge c.in_ok-waited.waited.items c.in_ok-waiting.waiting.items c.requires.reversed c.in_ok-waited.ensures c.in_ok-waiting.ensures
