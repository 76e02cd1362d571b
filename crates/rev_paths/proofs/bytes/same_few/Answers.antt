use Rattle.std.proofs.Common.{List, ℕ, get_or, sym, ap, arith}
use Rattle.std.proofs.lemmas.List.{take_more_same}
use Rattle.rev_paths.proofs.BytesLemmas.{differ, same-all}
use Rattle.rev_paths.proofs.bytes.same_few.Goals as goal

pub returns-then-a-place : goal.returns-then-a-place
returns-then-a-place c = sym (differ c.args.a.now c.args.b.now (λ e. c.if-a-place.true (ap (λ (xs : List ℕ). get_or xs c.loop-place.place 0) e)))

pub loop-place-preserved : goal.loop-place-preserved
loop-place-preserved c =
    take_more_same c.args.a.now c.args.b.now c.loop-place.place 0 c.loop-place-test.true (omega (arith, c.loop-place-test.true, c.requires)) c.loop-place.invariant c.if-a-place.false

pub returns : goal.returns
returns c = sym (same-all c.args.a.now c.args.b.now c.loop-place.place (omega (arith, c.loop-place-test.false)) c.requires c.loop-place.invariant)
