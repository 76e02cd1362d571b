use Rattle.std.proofs.Common.{◌≡◌, ◌+◌, ◌-◌, ◌≤◌, ◌<◌, ◌||◌, false, get_or, length, set, refl, sym, ap, subst, ◌∙◌, arith}
use Rattle.std.proofs.lemmas.List.{get_or_default, length-set}
use Rattle.rev_filters.proofs.RowLemmas.{IsSpread, spread-all, spread-more, spread-start}
use Rattle.rev_filters.proofs.matching.spread.Goals as goal

pub loop-place-preserved : goal.loop-place-preserved
loop-place-preserved c =
    let row = c.loop-place.row.items in
    let place = c.loop-place.place - 1 in
    let any = c.either-any.result in
    let back : c.loop-place.place ≡ (c.loop-place.place - 1) + 1 = omega (arith, c.loop-place-test.true) in
    let w = c.loop-place.invariant.within in
    let inside : c.loop-place.place - 1 < length c.loop-place.row.items = omega (arith, w, c.loop-place-test.true) in
    let here : c.index-here.result.now ≡ get_or c.loop-place.row.items (c.loop-place.place - 1) false = c.index-here.ensures ∙ get_or_default row place c.index-here.result.now false inside in
    record {
      within = let w = c.loop-place.invariant.within in omega (arith, w, length-set row place any);
      spread = λ passes bytes is. spread-more passes bytes row (set row place any) place c.loop-place.any any (subst (λ n. IsSpread passes bytes row n c.loop-place.any) back (c.loop-place.invariant.spread passes bytes is)) (c.either-any.ensures ∙ ap (λ b. b || c.loop-place.any) here) refl;
    }

pub returns : goal.returns
returns c = λ passes bytes is. spread-all passes bytes c.loop-place.row.items c.loop-place.place c.loop-place.any (omega (arith, c.loop-place-test.false)) (c.loop-place.invariant.spread passes bytes is)
