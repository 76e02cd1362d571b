use Rattle.std.proofs.Common.{◌≡◌, ℕ, ◌-◌, ◌&&◌, ◌||◌, Bool, true, false, List, length, take, drop, length-drop, Result, Ok, Err, refl, sym, ap, subst, ◌∙◌, arith}
use Rattle.std.specs.Prelude.{OnOk, nat_lt}
use Rattle.rev_causal.specs.Chosen.{IsRising, is_among}
use Rattle.rev_accesses.specs.Following.{is_below, is_between}
use Rattle.rev_accesses.proofs.PlaceLemmas.{take_whole}
use Rattle.rev_numbers.proofs.RisingLemmas.{among_drop, rising_drop}
use Rattle.rev_accesses.proofs.between.add_between.Goals as goal

tail_is : (ks : List ℕ) (i : ℕ) → take (length ks - i) (drop i ks) ≡ drop i ks
tail_is ks i = take_whole (drop i ks) (length ks - i) (let e : length (drop i ks) ≡ length ks - i = length-drop i ks in omega arith)

on_ok : {A E P Q : Type 0} (r : Result A E) → (P → Q) → OnOk r P → OnOk r Q
on_ok (Ok a) f h = f h
on_ok (Err e) f h = h

pub add_below-requires : goal.add_below-requires
add_below-requires c = subst IsRising (sym (tail_is c.args.numbers.now c.place_above-place.result)) (rising_drop c.place_above-place.result c.args.numbers.now c.requires)

and_assoc : (a b d : Bool) → ((a && b) && d) ≡ (a && (b && d))
and_assoc true b d = refl
and_assoc false b d = refl

pub returns : goal.returns
returns c =
    let i : ℕ = c.place_above-place.result in
    let ks : List ℕ = c.args.numbers.now in
    let same : (k : ℕ) → (is_among (take (length ks - i) (drop i ks)) k && is_below c.args.bound k) ≡ is_between c.args.number c.args.bound ks k = λ k.
    ap (λ (js : List ℕ). is_among js k && is_below c.args.bound k) (tail_is ks i)
    ∙ ap (λ b. b && is_below c.args.bound k) (among_drop ks i c.args.number c.place_above-place.ensures.within c.place_above-place.ensures.below c.place_above-place.ensures.above k)
    ∙ and_assoc (is_among ks k) (nat_lt c.args.number k) (is_below c.args.bound k) in
    on_ok c.add_below.result (λ (h : (k : ℕ) → is_among c.add_below.new.pending k ≡ ((is_among (take (length ks - i) (drop i ks)) k && is_below c.args.bound k) || is_among c.args.pending.now k)) (k : ℕ). h k ∙ ap (λ b. b || is_among c.args.pending.now k) (same k)) c.add_below.ensures
