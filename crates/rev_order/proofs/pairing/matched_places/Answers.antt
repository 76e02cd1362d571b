use Rattle.std.proofs.Common.{◌≡◌, ◌<◌, ◌≤◌, ◌+◌, ◌^◌, ℕ, List, length, option_map, sym, ap, subst, ◌∙◌, arith}
use Rattle.std.specs.List.{AllByRecursion}
use Rattle.rev_causal.specs.Chosen.{chosen}
use Rattle.rev_causal.specs.Order.{Distinct}
use Rattle.rev_causal.specs.OrderCheck.{bare}
use Rattle.rev_order.specs.Pairs.{ArePlaces}
use Rattle.rev_order.proofs.Matching.{is_found}
use Rattle.rev_order.proofs.pairing.matched_places.Goals as goal

pub places_of-requires-clause-within : goal.places_of-requires-clause-within
places_of-requires-clause-within g c =
    let f =
    is_found g.T.PartialEq.eq c.requires.equality c.args.items.now.entries c.args.kept.now (bare (chosen c.args.others.now.entries c.args.other_kept.now)) c.in-Some.numbers.items c.args.last
    c.requires.rising c.requires.items c.requires.within (sym (ap (option_map (λ v. v.items)) c.in-Some.is) ∙ c.in_ok-matched.ensures) in
    subst (λ (ns : List ℕ). AllByRecursion (λ k. k ≤ c.args.last) ns) (sym c.deref.ensures.value) f.within

pub places_of-requires-clause-few : goal.places_of-requires-clause-few
places_of-requires-clause-few g c =
    let f =
    is_found g.T.PartialEq.eq c.requires.equality c.args.items.now.entries c.args.kept.now (bare (chosen c.args.others.now.entries c.args.other_kept.now)) c.in-Some.numbers.items c.args.last
    c.requires.rising c.requires.items c.requires.within (sym (ap (option_map (λ v. v.items)) c.in-Some.is) ∙ c.in_ok-matched.ensures) in
    let few : length c.in-Some.numbers.items ≤ c.args.last + 1 = f.few in
    let low : c.args.last < 2 ^ 32 = c.ranges.last.fits in
    let same : length c.deref.result.now ≡ length c.in-Some.numbers.items = ap length c.deref.ensures.value in
    omega arith

pub returns : goal.returns
returns g c =
    let f =
    is_found g.T.PartialEq.eq c.requires.equality c.args.items.now.entries c.args.kept.now (bare (chosen c.args.others.now.entries c.args.other_kept.now)) c.in-Some.numbers.items c.args.last
    c.requires.rising c.requires.items c.requires.within (sym (ap (option_map (λ v. v.items)) c.in-Some.is) ∙ c.in_ok-matched.ensures) in
    record {
      other = f.other;
      found = f.found;
      matched = f.matched;
      are = subst (λ (ns : List ℕ). ArePlaces ns c.in_ok-places.places.items) (c.deref.ensures.value ∙ sym f.are) (c.in_ok-places.ensures (subst Distinct (sym c.deref.ensures.value) f.once));
    }
