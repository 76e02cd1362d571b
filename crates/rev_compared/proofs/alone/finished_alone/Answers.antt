use Rattle.std.proofs.Common.{[], ◌∷◌, ◌++◌, sym, ◌∙◌}
use Rattle.std.specs.Prelude.{if◌then◌else◌}
use Rattle.rev_compared.specs.Alone.{is_finished_alone}
use Rattle.rev_compared.proofs.Lists.{filtered-next}
use Rattle.rev_compared.proofs.alone.finished_alone.Goals as goal

pub loop-edge-preserved : goal.loop-edge-preserved
loop-edge-preserved c =
    c.in_ok-add_where.ensures
    ∙ (λ j. c.loop-edge.invariant j ++ (if c.is_finished_alone-passes.ensures j then c.loop-edge.edge ∷ [] else []))
    ∙ sym (filtered-next (is_finished_alone c.args.here.now.lasts.now c.args.here.now.earlier.now c.args.here.now.number c.args.twins.now
    c.args.there.now.lasts.now c.args.there.now.earlier.now c.args.there.now.number) c.loop-edge.edge)
