use Rattle.std.proofs.Common.{[], ◌∷◌, ◌++◌, sym, ◌∙◌}
use Rattle.rev_compared.specs.Twins.{twin_of}
use Rattle.rev_compared.proofs.Lists.{mapped-next}
use Rattle.rev_compared.proofs.pairing.twins.Goals as goal

pub loop-edge-preserved : goal.loop-edge-preserved
loop-edge-preserved c =
    c.in_ok-push.ensures.items
    ∙ (λ j. c.loop-edge.invariant j ++ c.twin.ensures j ∷ [])
    ∙ sym (mapped-next (twin_of c.args.graph.now.manifest.builds c.args.other.now.manifest.builds) c.loop-edge.edge)
