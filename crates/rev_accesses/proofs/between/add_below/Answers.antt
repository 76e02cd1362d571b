use Rattle.std.proofs.Common.{◌≡◌, ℕ, ◌<◌, ◌&&◌, ◌||◌, false, List, ◌∷◌, length, drop, drop-cons, get_or, suc, sym, ap, subst, ◌∙◌, arith}
use Rattle.rev_causal.specs.Chosen.{IsRising, is_among}
use Rattle.rev_accesses.specs.Following.{is_below}
use Rattle.rev_accesses.proofs.BetweenLemmas.{none_below}
use Rattle.rev_accesses.proofs.between.add_below.Goals as goal

pub returns-then-not-is_below : goal.returns-then-not-is_below
returns-then-not-is_below c = λ k.
    let i : ℕ = c.loop-number.number-index in
    let ks : List ℕ = c.args.numbers.now in
    let lt : i < length ks = omega (arith, c.loop-number-test.true) in
    let first : drop i ks ≡ get_or ks i 0 ∷ drop (suc i) ks = drop-cons ks i 0 lt in
    let rising : IsRising (get_or ks i 0 ∷ drop (suc i) ks) = subst IsRising first c.loop-number.invariant.rising in
    let none : (is_among (drop i ks) k && is_below c.args.bound k) ≡ false = ap (λ (js : List ℕ). is_among js k && is_below c.args.bound k) first ∙ none_below c.args.bound (get_or ks i 0) k (drop (suc i) ks) rising (sym c.is_below.ensures ∙ c.if-not-is_below.true) in
    ap (λ b. b || is_among c.loop-number.pending k) (sym none) ∙ c.loop-number.invariant.added k
