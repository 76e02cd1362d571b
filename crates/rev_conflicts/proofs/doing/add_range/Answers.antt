use Rattle.std.proofs.Common.{◌≡◌, arith, subst, sym, Contains, ◌⊎◌}
use Rattle.std.specs.Prelude.{◌↔◌}
use Rattle.rev_conflicts.proofs.Some.{either-more}
use Rattle.rev_conflicts.proofs.NumberLemmas.{IsPast, past-all, past-more, past-none, pushed}
use Rattle.rev_conflicts.proofs.doing.add_range.Goals as goal

pub loop-number-init : goal.loop-number-init
loop-number-init c = λ n.
    let same : c.from-number.result ≡ c.args.range.now.first = omega arith in
    subst (λ f. Contains c.args.numbers.now.items n ↔ (Contains c.args.numbers.now.items n ⊎ IsPast c.args.range.now f n)) (sym same) (past-none c.args.range.now n)

pub loop-number-preserved : goal.loop-number-preserved
loop-number-preserved c = λ n.
    past-more c.args.range.now c.loop-number.number n (omega arith) (omega arith) (c.loop-number.invariant n) (pushed c.loop-number.numbers.items _ _ n c.in_ok-push.ensures.items)

pub returns : goal.returns
returns c = λ n. either-more (c.loop-number.invariant n) (past-all c.args.range.now c.loop-number.number n (omega arith))
