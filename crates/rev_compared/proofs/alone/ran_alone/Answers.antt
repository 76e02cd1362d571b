use Rattle.std.proofs.Common.{[], ◌∷◌, ◌++◌, ap₂, sym, ◌∙◌}
use Rattle.std.specs.Prelude.{if◌then◌else◌}
use Rattle.rev_compared.specs.Alone.{is_alone, last_at, twin_last}
use Rattle.rev_compared.proofs.Lists.{filtered-next}
use Rattle.rev_compared.proofs.alone.ran_alone.Goals as goal

pub loop-edge-preserved : goal.loop-edge-preserved
loop-edge-preserved c =
    let passes = c.is_alone-passes.ensures ∙ ap₂ is_alone c.last_at.ensures c.twin_last.ensures in
    c.in_ok-add_where.ensures
    ∙ (λ j. c.loop-edge.invariant j ++ (if passes j then c.loop-edge.edge ∷ [] else []))
    ∙ sym (filtered-next (λ edge. is_alone (last_at c.args.lasts.now edge) (twin_last c.args.twins.now c.args.others.now edge))
    c.loop-edge.edge)
