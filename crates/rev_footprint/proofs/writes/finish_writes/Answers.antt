use Rattle.std.proofs.Common.{◌++◌, ◌∷◌, [], ap, ◌∙◌}
use Rattle.rev_cells.specs.State.{mark_of}
use Rattle.rev_cells.specs.declared.cell.Cell.TheVariants as cell
use Rattle.rev_dirty.specs.Seen.{stamp_cells, built_cells, deps_cells}
use Rattle.rev_events.specs.Edge.{held_cells}
use Rattle.rev_events.specs.Written.{finish_writes}
use Rattle.rev_graph.specs.Graph.{build_at, outputs_of, pool_of}
use Rattle.rev_footprint.proofs.WritesLemmas.{five-parts}
use Rattle.rev_footprint.proofs.writes.finish_writes.Goals as goal

pub returns : goal.returns
unfolding finish_writes
returns c =
    let manifest = c.args.graph.now.manifest in
    let build = build_at manifest.builds c.args.edge in
    let held = held_cells (pool_of manifest c.args.edge) (mark_of c.args.cells.now.state c.args.edge) in
    let stamps = stamp_cells (outputs_of build) in
    let built = built_cells (outputs_of build) in
    let deps = deps_cells build in
    c.in_ok-push_some.ensures
    ∙ (λ i. c.in_ok-push_output_records.ensures i ++ c.in_ok-deps_cell.ensures i)
    ∙ ap (λ cs. (cs ++ built) ++ deps) c.in_ok-push_output_stamps.ensures
    ∙ ap (λ cs. ((cs ++ stamps) ++ built) ++ deps) c.in_ok-push_held.ensures
    ∙ ap (λ cs. (((cs ++ held) ++ stamps) ++ built) ++ deps) c.in_ok-push.ensures.items
    ∙ ap (λ cs. ((((cs ++ cell.Mark c.args.edge ∷ []) ++ held) ++ stamps) ++ built) ++ deps) c.new-writes.ensures.items
    ∙ five-parts (cell.Mark c.args.edge) held stamps built deps
