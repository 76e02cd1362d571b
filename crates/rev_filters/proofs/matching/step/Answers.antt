use Rattle.std.proofs.Common.{◌≡◌, ◌+◌, ◌<◌, ◌==◌, ◌&&◌, false, get_or, length, set, refl, sym, ap, ◌∙◌, arith}
use Rattle.std.proofs.lemmas.List.{get_or_default, length-set}
use Rattle.rev_filters.proofs.RowLemmas.{step-all, step-more, step-start}
use Rattle.rev_filters.proofs.matching.step.Goals as goal

pub loop-place-init : goal.loop-place-init
loop-place-init c = record { each = c.requires; step = λ passes is. step-start passes c.args.bytes.now c.args.byte c.args.row.now.items is }

pub loop-place-preserved : goal.loop-place-preserved
loop-place-preserved c =
    let bytes = c.args.bytes.now in
    let row = c.loop-place.row.items in
    let place = c.loop-place.place in
    let mark = c.both.result in
    let inside : c.loop-place.place + 1 < length c.loop-place.row.items = let e = c.loop-place.invariant.each in omega (arith, e, c.loop-place-test.true) in
    let next : c.index-next.result.now ≡ get_or c.loop-place.row.items (c.loop-place.place + 1) false = c.index-next.ensures ∙ get_or_default row (place + 1) c.index-next.result.now false inside in
    record {
      each = length-set row place mark ∙ c.loop-place.invariant.each;
      step = λ passes is. step-more passes bytes c.args.byte row (set row place mark) place mark c.loop-place-test.true (c.loop-place.invariant.step passes is) (c.both.ensures ∙ ap (λ b. (get_or c.args.bytes.now c.loop-place.place 0 == c.args.byte) && b) next) refl;
    }

pub returns : goal.returns
returns c = λ passes is.
    step-all passes c.args.bytes.now c.args.byte c.loop-place.row.items (set c.loop-place.row.items (length c.args.bytes.now) false) c.loop-place.place
    (omega (arith, c.loop-place-test.false, c.loop-place.auto.place-end)) (c.loop-place.invariant.step passes is) refl
