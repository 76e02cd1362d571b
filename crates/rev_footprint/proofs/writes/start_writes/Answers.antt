use Rattle.std.proofs.Common.{◌++◌, ◌∷◌, [], ap, ◌∙◌}
use Rattle.rev_cells.specs.declared.cell.Cell.TheVariants as cell
use Rattle.rev_events.specs.Edge.{slot_cells}
use Rattle.rev_events.specs.Written.{start_writes}
use Rattle.rev_graph.specs.Graph.{pool_of}
use Rattle.rev_footprint.proofs.writes.start_writes.Goals as goal

pub returns : goal.returns
unfolding start_writes
returns c = λ state.
    let slots = slot_cells (pool_of c.args.graph.now.manifest c.args.edge) c.args.slot in
    c.in_ok-push_slot.ensures ∙ (λ i. c.in_ok-push-2.ensures.items i ++ slot_cells (c.pool.ensures i) c.args.slot)
    ∙ ap (λ cs. (cs ++ cell.Job c.args.job ∷ []) ++ slots) c.in_ok-push.ensures.items
    ∙ ap (λ cs. ((cs ++ cell.Mark c.args.edge ∷ []) ++ cell.Job c.args.job ∷ []) ++ slots) c.in_ok-writes.ensures.items
