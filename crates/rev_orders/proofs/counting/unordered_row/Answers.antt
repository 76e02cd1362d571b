use Rattle.rev_orders.proofs.WaitLemmas.{row_found}
use Rattle.rev_orders.proofs.counting.unordered_row.Goals as goal

pub returns : goal.returns
returns c = row_found c.args.successors.now c.args.commands.now c.args.first.now.nodes.items c.nodes-nodes.result.now c.args.first.now.places.items c.args.place c.index-successors-nodes.result c.deref.result.now
    c.in_ok-waited.waited.items c.deref-2.result.now c.in_ok-row.row.items c.nodes-nodes.ensures c.requires.order c.requires.place c.index-successors-nodes.is c.deref.ensures.value c.in_ok-waited.ensures c.deref-2.ensures.value c.in_ok-row.ensures
