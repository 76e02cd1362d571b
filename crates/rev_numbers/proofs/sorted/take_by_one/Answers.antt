use Rattle.std.proofs.Common.{◌≡◌, ◌≤◌, ◌<◌, ◌-◌, ℕ, List, not, length, drop, get_or, nat_eq, sym, ap, subst, ◌∙◌, arith}
use Rattle.rev_causal.specs.Chosen.{IsRising, without}
use Rattle.rev_causal.proofs.Chosen.{IsRising-filter}
use Rattle.rev_numbers.specs.Taken.{without_all}
use Rattle.rev_numbers.proofs.TakenLemmas.{without_more, without_none}
use Rattle.rev_numbers.proofs.TakenLemmas.{dropped-before, dropped-all}
use Rattle.rev_numbers.proofs.sorted.take_by_one.Goals as goal

pub loop-left-init : goal.loop-left-init
loop-left-init c = (omega arith, c.requires, sym (ap (λ (ms : List ℕ). without_all ms c.args.numbers.now.items) (dropped-all c.args.members.now) ∙ without_none c.args.numbers.now.items))

pub loop-left-preserved : goal.loop-left-preserved
loop-left-preserved c =
    let within : c.loop-left.left ≤ length c.args.members.now = c.loop-left.invariant.0 in
    let some : 0 < c.loop-left.left = omega arith in
    let m : ℕ = get_or c.args.members.now (c.loop-left.left - 1) 0 in
    let ks : List ℕ = c.args.numbers.now.items in (
      omega arith,
      subst IsRising (sym c.take_from.ensures) (IsRising-filter (λ y. not (nat_eq y m)) c.loop-left.numbers.items c.loop-left.invariant.1),
      c.take_from.ensures ∙ ap (without m) c.loop-left.invariant.2 ∙ without_more m (drop c.loop-left.left c.args.members.now) ks
          ∙ ap (λ (ms : List ℕ). without_all ms ks) (sym (dropped-before c.args.members.now c.loop-left.left some within)),
    )

pub returns : goal.returns
returns c =
    let none : c.loop-left.left ≡ 0 = omega arith in
    c.loop-left.invariant.2 ∙ ap (λ (i : ℕ). without_all (drop i c.args.members.now) c.args.numbers.now.items) none
