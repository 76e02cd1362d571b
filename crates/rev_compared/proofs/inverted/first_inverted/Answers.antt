use Rattle.std.proofs.Common.{sym, subst, ◌∙◌}
use Rattle.rev_causal.specs.Chosen.{IsRising}
use Rattle.rev_causal.proofs.Chosen.{AllAccepted, IsRising-filter}
use Rattle.rev_history.specs.Along.{prints_along}
use Rattle.rev_compared.proofs.Prints.{compared-accepted}
use Rattle.rev_compared.proofs.inverted.first_inverted.Goals as goal

pub pair_in-requires-clause-rising : goal.pair_in-requires-clause-rising
pair_in-requires-clause-rising c =
    subst IsRising (sym (c.deref-2.ensures.value ∙ c.in_ok-numbers.ensures))
    (IsRising-filter _ c.kept.result.now (subst IsRising (sym c.kept.ensures.kept) c.kept.ensures.legal.rising))

pub pair_in-requires-clause-kept : goal.pair_in-requires-clause-kept
pair_in-requires-clause-kept c =
    subst (AllAccepted (prints_along c.args.history.now.timeline)) (sym (c.deref-2.ensures.value ∙ c.in_ok-numbers.ensures))
    (compared-accepted c.args.history.now.timeline c.args.matched.now c.kept.result.now)
