use Rattle.std.proofs.Common.{rules, ◌≡◌, ℕ, Result, Ok, Err, IsErrAnd, inl, inr, sym, ap, subst, arith}
use Rattle.std.specs.declared.alloc.Global.{Global}
use Rattle.std.specs.declared.vec.Vec.{Vec}
use Rattle.rev_input.specs.Input.{Takes}
use Rattle.rev_input.specs.declared.reading.TakeFault.{TakeFault}
use Rattle.rev_input.proofs.InputLemmas.{consumes_more, one_more, read_enough, read_failed}
use Rattle.rev_input.proofs.reading.take_up_to.Goals as goal
use Rattle.rev_input.proofs.reading.take_up_to.Goals.{then-has_ended-via-then-has_ended, then-has_ended-via-else-has_ended+then-len-most}

-- what a `?` hands on
at_err : (r : Result (Vec ℕ Global) TakeFault) (fault : TakeFault) → IsErrAnd r (λ e. e ≡ fault) → r ≡ Err fault
at_err (Ok bytes) fault h = absurd h
at_err (Err e) fault h = ap Err h

pub returns-in_err-has_ended-clause-reads : goal.returns-in_err-has_ended-clause-reads
returns-in_err-has_ended-clause-reads g c =
    let failed = read_failed g.S.Source.gives _ _ _ _ c.args.most _ c.read_some.new.bytes.items c.in_err-has_ended.field-0.0 c.loop-count.invariant.3 c.in_err-has_ended.ensures.one in
    subst (λ (r : Result (Vec ℕ Global) TakeFault). Takes g.S.Source.gives c.args.most c.args.reader.now c.read_some.new.reader r)
    (sym (at_err _ _ c.from_residual-in_err-has_ended.ensures.1)) failed

pub returns-then-has_ended-clause-reads : goal.returns-then-has_ended-clause-reads
returns-then-has_ended-clause-reads g c =
    read_enough g.S.Source.gives _ _ _ _ _ _ _ c.in_ok-has_ended.has_ended c.loop-count.invariant.3 c.in_ok-has_ended.ensures.one
    (elim c.then-has_ended.branch [
      | then-has_ended-via-then-has_ended w ↦ inl w.if-has_ended.true
      | then-has_ended-via-else-has_ended+then-len-most w ↦ inr (omega (arith, w.len.ensures))
    ])

pub loop-count-preserved : goal.loop-count-preserved
loop-count-preserved g c = (
  search rules,
  consumes_more _ _ _ _ _ c.loop-count.invariant.1 c.in_ok-has_ended.ensures.bytes,
  omega (arith, c.len.ensures),
  one_more g.S.Source.gives _ _ _ _ _ _ c.in_ok-has_ended.has_ended c.loop-count.invariant.3 c.in_ok-has_ended.ensures.one,
)
