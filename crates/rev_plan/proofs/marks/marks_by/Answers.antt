use Rattle.std.proofs.Common.{◌++◌, ◌∷◌, [], ◌∙◌, arith, sym}
use Rattle.std.proofs.lemmas.List.FromFn.{map-range_with_len_more}
use Rattle.rev_plan.specs.Steps.{mark_by}
use Rattle.rev_plan.proofs.marks.marks_by.Goals as goal

pub loop-edge-preserved : goal.loop-edge-preserved
loop-edge-preserved c =
    c.in_ok-push.ensures.items ∙ (λ i. c.loop-edge.invariant i ++ c.mark_of.ensures i ∷ [])
    ∙ sym (map-range_with_len_more (mark_by c.args.wanted.now c.args.waiting.now) 0 c.loop-edge.edge c.loop-edge.edge (omega arith))
