use Rattle.std.proofs.Common.{◌≡◌, arith, subst, Contains, ◌⊎◌}
use Rattle.std.specs.Prelude.{◌↔◌}
use Rattle.rev_entry_conflicts.proofs.TouchLemmas.{IsBetween, between-is, between-more, between-none, either-more, pushed}
use Rattle.rev_entry_conflicts.proofs.touch.add_range.Goals as goal

pub loop-number-init : goal.loop-number-init
loop-number-init c = λ n. between-none c.args.deed.now.first n

pub loop-number-preserved : goal.loop-number-preserved
loop-number-preserved c = λ n. between-more c.args.deed.now.first c.loop-number.number n (omega arith) (c.loop-number.invariant n) (pushed c.loop-number.numbers.items _ _ n c.in_ok-push.ensures.items)

pub returns : goal.returns
returns c = λ n.
    let all : c.loop-number.number ≡ c.end_of-end.result = omega arith in
    either-more (subst (λ m. Contains c.loop-number.numbers.items n ↔ (Contains c.args.numbers.now.items n ⊎ IsBetween c.args.deed.now.first m n)) all (c.loop-number.invariant n))
    (between-is c.args.deed.now c.args.count c.end_of-end.result n c.end_of-end.ensures.within c.end_of-end.ensures.last c.end_of-end.ensures.whole)
