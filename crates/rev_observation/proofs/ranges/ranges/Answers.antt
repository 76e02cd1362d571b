use Rattle.std.proofs.Common.{◌≡◌, ◌+◌, ◌<◌, ◌≤◌, [], rules, ap, drop, length, Err, ◌∙◌, sym, arith}
use Rattle.std.proofs.lemmas.Result.{err_from_is_err_and}
use Rattle.rev_fields.specs.Faults.{each_of}
use Rattle.rev_fields.specs.Parts.{lent_of}
use Rattle.rev_fields.proofs.AnswerLemmas.{fault_passes}
use Rattle.rev_fields.proofs.EachLemmas.{after, after-empty, each_step, each_fault, each_all}
use Rattle.rev_fields.proofs.SliceLemmas.{at-lent_of, length-lent_of}
use Rattle.rev_observed.specs.Ranges.{range_of, ranges_of}
use Rattle.rev_observation.proofs.ranges.ranges.Goals as goal

pub loop-text-init : goal.loop-text-init
loop-text-init c =
    let start : c.in_ok-ranges.ranges.items ≡ [] = search rules in
    let rest = each_of range_of (lent_of c.args.texts.now) in
    ap (λ out. after out rest) start ∙ after-empty rest

pub returns-in_err-next : goal.returns-in_err-next
returns-in_err-next c =
    let items = c.args.texts.now in
    let i = c.loop-text.text-index in
    let p = err_from_is_err_and c.from_residual-in_err-next.result c.from_residual-in_err-next.ensures.1 in
    let within : i < length (lent_of items) = omega (arith, length-lent_of items, c.loop-text-test.true) in
    fault_passes c.from_residual-in_err-next.result c.in_err-next.field-0.0 (λ n. n) (λ ranges. ranges.items) _ (ranges_of (lent_of items))
    (p.1 ∙ ap Err p.2) (λ kind said.
    each_fault range_of (lent_of items) c.loop-text.ranges.items i [] kind within (ap range_of (at-lent_of items i c.text-item.result c.loop-text-test.true c.text-item.is ∙ sym c.deref.ensures.value) ∙ said) c.loop-text.invariant) c.in_err-next.ensures

pub loop-text-preserved : goal.loop-text-preserved
loop-text-preserved c =
    let items = c.args.texts.now in
    let i = c.loop-text.text-index in
    let within : i < length (lent_of items) = omega (arith, length-lent_of items, c.loop-text-test.true) in
    let step = each_step range_of (lent_of items) c.loop-text.ranges.items i [] c.in_ok-next.next within (ap range_of (at-lent_of items i c.text-item.result c.loop-text-test.true c.text-item.is ∙ sym c.deref.ensures.value) ∙ c.in_ok-next.ensures) c.loop-text.invariant in
    ap (λ out. after out (each_of range_of (drop (i + 1) (lent_of items)))) c.in_ok-push.ensures.items ∙ step

pub returns : goal.returns
returns c =
    let items = c.args.texts.now in
    let past : length (lent_of items) ≤ c.loop-text.text-index = omega (arith, length-lent_of items, c.loop-text-test.false) in
    each_all range_of (lent_of items) c.loop-text.ranges.items c.loop-text.text-index past c.loop-text.invariant
