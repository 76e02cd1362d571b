use Rattle.std.proofs.Common.{[], ◌∷◌, ◌++◌, sym, ◌∙◌}
use Rattle.rev_compared.specs.Earlier.{is_made_earlier}
use Rattle.rev_compared.proofs.Lists.{mapped-next}
use Rattle.rev_compared.proofs.earlier.made_earlier.Goals as goal

pub loop-edge-preserved : goal.loop-edge-preserved
loop-edge-preserved c =
    c.in_ok-push.ensures.items
    ∙ (λ j. c.loop-edge.invariant j ++ c.is_made_earlier.ensures j ∷ [])
    ∙ sym (mapped-next (is_made_earlier c.args.history.now.timeline c.args.lasts.now) c.loop-edge.edge)
