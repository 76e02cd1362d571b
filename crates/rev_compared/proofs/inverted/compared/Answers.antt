use Rattle.std.proofs.Common.{[], ◌∷◌, ◌++◌, get_or, ap, ◌∙◌}
use Rattle.std.specs.Prelude.{if◌then◌else◌}
use Rattle.rev_compared.specs.Inverted.{is_compared}
use Rattle.rev_compared.proofs.Lists.{filtered-at}
use Rattle.rev_compared.proofs.inverted.compared.Goals as goal

pub loop-number-preserved : goal.loop-number-preserved
loop-number-preserved c =
    filtered-at (is_compared c.args.history.now.timeline c.args.matched.now) c.args.kept.now c.loop-number.number-index 0
    c.loop-number.numbers.items c.add_where.new.numbers.items c.loop-number-test.true c.loop-number.invariant
    (c.in_ok-add_where.ensures
    ∙ ap (λ b. c.loop-number.numbers.items ++ (if b then get_or c.args.kept.now c.loop-number.number-index 0 ∷ [] else [])) c.is_compared-passes.ensures)
