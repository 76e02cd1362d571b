use Rattle.std.proofs.Common.{not, sym, subst}
use Rattle.rev_causal.specs.Chosen.{IsRising, is_among}
use Rattle.rev_causal.proofs.Chosen.{IsRising-filter}
use Rattle.rev_numbers.proofs.sorted.take_all_from.Goals as goal

pub returns-then-members-gt-FEW-clause-order : goal.returns-then-members-gt-FEW-clause-order
returns-then-members-gt-FEW-clause-order c =
    subst IsRising (sym c.take_in_one.ensures) (IsRising-filter (λ k. not (is_among c.args.members.now k)) c.args.numbers.now.items c.requires.order)

pub returns-else-members-gt-FEW-clause-order : goal.returns-else-members-gt-FEW-clause-order
returns-else-members-gt-FEW-clause-order c =
    subst IsRising (sym c.take_by_one.ensures) (IsRising-filter (λ k. not (is_among c.args.members.now k)) c.args.numbers.now.items c.requires.order)
