use Rattle.std.proofs.Common.{not, subst, sym}
use Rattle.rev_causal.specs.Chosen.{IsRising, is_among}
use Rattle.rev_causal.proofs.Chosen.{IsRising-filter}
use Rattle.rev_numbers.proofs.RisingLemmas.{rising_without}
use Rattle.rev_numbers.proofs.TakenLemmas.{gone_all, gone_one, thinned_all, thinned_not, thinned_one}
use Rattle.rev_numbers.proofs.sorted.take_member_from.Goals as goal

pub returns-then-members-le-FEW-clause-order : goal.returns-then-members-le-FEW-clause-order
returns-then-members-le-FEW-clause-order c = subst IsRising (sym c.take_from.ensures) (rising_without c.args.number c.args.numbers.now.items c.requires.order)

pub returns-then-members-le-FEW-clause-thinned : goal.returns-then-members-le-FEW-clause-thinned
returns-then-members-le-FEW-clause-thinned c =
    thinned_one c.args.members.now c.args.numbers.now.items c.take_from.new.numbers.items c.args.number c.requires.member c.take_from.ensures

pub returns-then-members-le-FEW-clause-gone : goal.returns-then-members-le-FEW-clause-gone
returns-then-members-le-FEW-clause-gone c = gone_one c.args.numbers.now.items c.take_from.new.numbers.items c.args.number c.take_from.ensures

pub returns-then-is_none-clause-thinned : goal.returns-then-is_none-clause-thinned
returns-then-is_none-clause-thinned c = thinned_not c.args.members.now c.args.numbers.now.items

pub returns-clause-order : goal.returns-clause-order
returns-clause-order c =
    subst IsRising (sym c.take_in_one.ensures) (IsRising-filter (λ k. not (is_among c.args.members.now k)) c.args.numbers.now.items c.requires.order)

pub returns-clause-thinned : goal.returns-clause-thinned
returns-clause-thinned c = thinned_all c.args.members.now c.args.numbers.now.items c.take_in_one.new.numbers.items c.take_in_one.ensures

pub returns-clause-gone : goal.returns-clause-gone
returns-clause-gone c =
    gone_all c.args.members.now c.args.numbers.now.items c.take_in_one.new.numbers.items c.args.number c.requires.member c.take_in_one.ensures
