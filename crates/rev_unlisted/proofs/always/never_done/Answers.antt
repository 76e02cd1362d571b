use Rattle.std.proofs.Common.{◌++◌, ◌∷◌, [], sym, ◌∙◌, zero-add}
use Rattle.std.proofs.lemmas.List.FromFn.{map-range_with_len_more}
use Rattle.rev_graph.specs.Graph.{build_at}
use Rattle.rev_unlisted.specs.Always.{is_never_done}
use Rattle.rev_unlisted.proofs.always.never_done.Goals as goal

pub loop-edge-preserved : goal.loop-edge-preserved
loop-edge-preserved c =
    let edge = c.loop-edge.edge in
    c.in_ok-push.ensures.items ∙ (λ j. c.loop-edge.invariant j ++ c.is_never_done.ensures j ∷ [])
    ∙ sym (map-range_with_len_more (λ e. is_never_done c.args.cells.now.state (build_at c.args.graph.now.manifest.builds e)) 0 edge edge (zero-add edge))
