use Rattle.std.proofs.Common.{◌++◌, map, ◌∙◌}
use Rattle.rev_graph.specs.Entries.{produced_by}
use Rattle.rev_graph.proofs.EntryLemmas.{three_lists}
use Rattle.rev_graph.proofs.steps.producers_of.Goals as goal

pub returns-clause-producers : goal.returns-clause-producers
returns-clause-producers c =
    let edge = c.args.edge.now in
    three_lists c.args.table.now.entries c.push_producers.new.table.entries c.push_producers-2.new.table.entries c.in_ok-producers.producers.items c.push_producers.new.producers.items
    c.push_producers-2.new.producers.items c.push_producers-3.new.producers.items c.explicit-explicit.result.now c.implicit-implicit.result.now c.order_only-order_only.result.now c.in_ok-producers.ensures.items
    c.in_ok-push_producers.ensures.producers c.in_ok-push_producers.ensures.entries c.in_ok-push_producers-2.ensures.producers c.in_ok-push_producers-2.ensures.entries
    c.in_ok-push_producers-3.ensures.producers
    ∙ (λ i. map (produced_by c.args.table.now.entries) (c.explicit-explicit.ensures i ++ c.implicit-implicit.ensures i ++ c.order_only-order_only.ensures i))
