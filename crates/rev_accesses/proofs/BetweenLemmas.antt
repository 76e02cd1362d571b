-- Numbers that rise, and a bound.
use Rattle.std.proofs.Common.{◌≡◌, ℕ, ◌<◌, ◌≤◌, true, false, ◌&&◌, ◌||◌, List, [], ◌∷◌, Option, Some, None, sym, ap, ap₂, ◌∙◌, inl, inr, true≢false, eqb-true, ltb-false, le-ltb, arith}
use Rattle.std.specs.Prelude.{nat_eq, nat_lt}
use Rattle.std.specs.List.{AllByRecursion}
use Rattle.rev_causal.specs.Chosen.{IsRising, is_among}
use Rattle.rev_causal.proofs.Runs.{either}
use Rattle.rev_accesses.specs.Following.{is_below}

above_other : (x k : ℕ) (ks : List ℕ) → AllByRecursion (λ y. x < y) ks → is_among ks k ≡ true → x < k
above_other x k [] h e = cc
above_other x k (y ∷ ys) h e = elim (either (nat_eq k y)) [
  | inl t ↦ let same : k ≡ y = eqb-true k y t in let lt : x < y = h.0 in omega arith
  | inr f ↦ above_other x k ys h.1 (sym (ap (λ b. b || is_among ys k) f) ∙ e)
]

-- from the first number on that is not below a bound none is
pub none_below : (bound : Option ℕ) (x k : ℕ) (ks : List ℕ) → IsRising (x ∷ ks) → is_below bound x ≡ false → (is_among (x ∷ ks) k && is_below bound k) ≡ false
none_below None x k ks rising h = absurd (true≢false h)
none_below (Some b) x k ks rising h = elim (either (is_among (x ∷ ks) k)) [
  | inl t ↦
      let le : b ≤ x = ltb-false x b h in
      let up : x ≤ k = elim (either (nat_eq k x)) [
        | inl e ↦ let same : k ≡ x = eqb-true k x e in omega arith
        | inr f ↦ let lt : x < k = above_other x k ks rising.0 (sym (ap (λ c. c || is_among ks k) f) ∙ t) in omega arith
      ] in
      ap₂ (λ c d. c && d) t (le-ltb k b (omega arith))
  | inr f ↦ ap (λ c. c && nat_lt k b) f
]
