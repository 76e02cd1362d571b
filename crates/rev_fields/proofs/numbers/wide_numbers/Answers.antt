use Rattle.std.proofs.Common.{◌≡◌, ◌+◌, ◌^◌, [], rules, ap, drop, Err, ◌∙◌, sym}
use Rattle.std.specs.List.{slice_split}
use Rattle.std.specs.Bool.{◌==◌}
use Rattle.std.proofs.lemmas.Result.{err_from_is_err_and}
use Rattle.rev_fields.specs.Faults.{each_of}
use Rattle.rev_fields.specs.Numbers.{number_below, numbers_below}
use Rattle.rev_fields.specs.Parts.{slices_of}
use Rattle.rev_fields.proofs.AnswerLemmas.{fault_passes}
use Rattle.rev_fields.proofs.EachLemmas.{after, after-empty, each_step, each_fault, each_all}
use Rattle.rev_fields.proofs.SliceLemmas.{at-slices_of, within-slices_of, past-slices_of}
use Rattle.rev_fields.proofs.numbers.wide_numbers.Goals as goal

pub loop-part-init : goal.loop-part-init
loop-part-init c =
    let start : c.in_ok-numbers.numbers.items ≡ [] = search rules in
    let rest = each_of (number_below (2 ^ 64)) (slices_of c.deref-part-items.result.now) in
    ap (λ out. after out rest) start ∙ after-empty rest

pub returns-in_err-number : goal.returns-in_err-number
returns-in_err-number c =
    let items = c.deref-part-items.result.now in
    let i = c.loop-part.part-index in
    let p = err_from_is_err_and c.from_residual-in_err-number.result c.from_residual-in_err-number.ensures.1 in
    let whole : slices_of items ≡ slice_split (λ b. b == 44) c.args.text.now = ap slices_of c.deref-part-items.ensures.value ∙ c.in_ok-parts.ensures in
    fault_passes c.from_residual-in_err-number.result c.in_err-number.field-0.0 (λ n. n) (λ numbers. numbers.items) _ (numbers_below (2 ^ 64) c.args.text.now)
    (p.1 ∙ ap Err p.2) (λ kind said.
    ap (each_of (number_below (2 ^ 64))) (sym whole) ∙ each_fault (number_below (2 ^ 64)) (slices_of items) c.loop-part.numbers.items i [] kind (within-slices_of items i c.loop-part-test.true) (ap (number_below (2 ^ 64)) (at-slices_of items i) ∙ said) c.loop-part.invariant) c.in_err-number.ensures

pub loop-part-preserved : goal.loop-part-preserved
loop-part-preserved c =
    let items = c.deref-part-items.result.now in
    let i = c.loop-part.part-index in
    let step = each_step (number_below (2 ^ 64)) (slices_of items) c.loop-part.numbers.items i [] c.in_ok-number.number (within-slices_of items i c.loop-part-test.true) (ap (number_below (2 ^ 64)) (at-slices_of items i) ∙ c.in_ok-number.ensures) c.loop-part.invariant in
    ap (λ out. after out (each_of (number_below (2 ^ 64)) (drop (i + 1) (slices_of items)))) c.in_ok-push.ensures.items ∙ step

pub returns : goal.returns
returns c =
    let items = c.deref-part-items.result.now in
    let whole : slices_of items ≡ slice_split (λ b. b == 44) c.args.text.now = ap slices_of c.deref-part-items.ensures.value ∙ c.in_ok-parts.ensures in
    ap (each_of (number_below (2 ^ 64))) (sym whole) ∙ each_all (number_below (2 ^ 64)) (slices_of items) c.loop-part.numbers.items c.loop-part.part-index (past-slices_of items c.loop-part.part-index c.loop-part-test.false) c.loop-part.invariant
