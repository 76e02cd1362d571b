use Rattle.std.proofs.Common.{◌+◌, [], ◌∷◌, ◌++◌, sym, ◌∙◌}
use Rattle.rev_compared.specs.Matched.{match_of}
use Rattle.rev_compared.proofs.Lists.{mapped-next}
use Rattle.rev_compared.proofs.matching.matched.Goals as goal

pub loop-passed-preserved : goal.loop-passed-preserved
loop-passed-preserved c =
    c.in_ok-push-2.ensures.items
    ∙ (λ j. c.loop-passed.invariant j ++ c.match_of-in-loop-passed.ensures j ∷ [])
    ∙ sym (mapped-next (match_of c.args.history.now.timeline c.args.lasts.now c.args.twins.now c.args.others.now) (c.loop-passed.passed + 1))
