use Rattle.std.proofs.Common.{◌<◌, ℕ, List, sym, ap, subst, ◌∙◌}
use Rattle.std.specs.List.{AllByRecursion}
use Rattle.rev_causal.specs.Chosen.{IsRising, without}
use Rattle.rev_numbers.proofs.RisingLemmas.{rising_with, with_number-last, with_number-but, rising-last}
use Rattle.rev_numbers.specs.Value.{NumbersValue, with_number}
use Rattle.rev_numbers.proofs.sorted.SortedNumbers.put.Goals as goal

pub invariant_of-self-2 : goal.invariant_of-self-2
invariant_of-self-2 c = subst IsRising (sym c.in_ok-put_among.ensures.ok) (rising_with c.args.number c.self.inside.numbers.items c.self.invariant)

pub returns-clause-but_for : goal.returns-clause-but_for
returns-clause-but_for c =
    ap (without c.args.number) c.in_ok-put_among.ensures.ok ∙ with_number-but c.args.number c.self.inside.numbers.items c.self.invariant
    ∙ ap (without c.args.number) (ap (λ (v : NumbersValue). v.items) c.self.view_is)

above : (c : goal.In_ok-push) → AllByRecursion (λ k. k < c.args.number) c.self.inside.numbers.items
above c = subst (λ (ks : List ℕ). AllByRecursion (λ k. k < c.args.number) ks) c.as_slice.ensures (c.is_above_all.ensures c.if-is_above_all.true)

pub invariant_of-self-then-is_above_all : goal.invariant_of-self-then-is_above_all
invariant_of-self-then-is_above_all c =
    subst IsRising (sym c.in_ok-push.ensures.ok) (rising-last c.args.number c.self.inside.numbers.items c.self.invariant (above c))

pub returns-then-is_above_all-clause-ok : goal.returns-then-is_above_all-clause-ok
returns-then-is_above_all-clause-ok c =
    c.in_ok-push.ensures.ok ∙ sym (with_number-last c.args.number c.self.inside.numbers.items (above c)) ∙ ap (with_number c.args.number) (ap (λ (v : NumbersValue). v.items) c.self.view_is)

pub returns-then-is_above_all-clause-but_for : goal.returns-then-is_above_all-clause-but_for
returns-then-is_above_all-clause-but_for c =
    ap (without c.args.number) (c.in_ok-push.ensures.ok ∙ sym (with_number-last c.args.number c.self.inside.numbers.items (above c)))
    ∙ with_number-but c.args.number c.self.inside.numbers.items c.self.invariant ∙ ap (without c.args.number) (ap (λ (v : NumbersValue). v.items) c.self.view_is)
