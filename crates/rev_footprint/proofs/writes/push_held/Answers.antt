use Rattle.std.proofs.Common.{◌++◌, sym, ap, ◌∙◌}
use Rattle.rev_cells.specs.State.{mark_of}
use Rattle.rev_graph.specs.Graph.{pool_of}
use Rattle.rev_footprint.specs.Run.{held_by}
use Rattle.rev_footprint.proofs.WritesLemmas.{held-is}
use Rattle.rev_footprint.proofs.writes.push_held.Goals as goal

pub returns : goal.returns
returns c =
    let pool = pool_of c.args.graph.now.manifest c.args.edge in
    let m = mark_of c.args.cells.now.state c.args.edge in
    c.in_ok-push_run.ensures ∙ (λ i. c.args.writes.now.items ++ held_by (c.pool.ensures i) (c.running.ensures i)) ∙ ap (λ cs. c.args.writes.now.items ++ cs) (sym (held-is pool m))
