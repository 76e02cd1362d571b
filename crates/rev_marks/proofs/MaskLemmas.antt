-- Marks of masks that are joined.
use Rattle.std.proofs.Common.{◌≡◌, ℕ, zero, suc, ◌*◌, ◌%◌, ◌^◌, ◌<◌, Bool, true, false, ◌||◌, max, nat_eq, w64, inl, inr, refl, sym, ap, subst, ◌∙◌, arith, eq-eqb, eqb-true, true≢false}
use Rattle.std.specs.Prelude.{bit_or}
use Rattle.rev_causal.proofs.Runs.{either}
use Rattle.std.specs.Int.{bit_at}
use Rattle.std.proofs.lemmas.Nat.Bits.{bit_at_or, bit_at_set_other, bit_at_set_same, bit_at-lt, bit_at-zero}
use Rattle.rev_marks.specs.Masks.{has_mark}

of-two : (x y : ℕ) → x < 2 → y < 2 → nat_eq (max x y) 1 ≡ (nat_eq x 1 || nat_eq y 1)
of-two zero zero p q = refl
of-two zero (suc zero) p q = refl
of-two (suc zero) zero p q = refl
of-two (suc zero) (suc zero) p q = refl
of-two (suc (suc x)) y p q = absurd (omega (arith, p))
of-two zero (suc (suc y)) p q = absurd (omega (arith, q))
of-two (suc zero) (suc (suc y)) p q = absurd (omega (arith, q))

pub mark-or : (i a b : ℕ) → has_mark i (bit_or a b) ≡ (has_mark i a || has_mark i b)
mark-or i a b = ap (λ n. nat_eq n 1) (bit_at_or a b i) ∙ of-two (bit_at a i) (bit_at b i) (bit_at-lt a i) (bit_at-lt b i)

pub mark-none : (i : ℕ) → has_mark i 0 ≡ false
mark-none i = ap (λ n. nat_eq n 1) (bit_at-zero i)

-- marks that were there
pub mark-had : (i old new mask : ℕ) → new ≡ bit_or old mask → new ≡ old → has_mark i old ≡ (has_mark i old || has_mark i mask)
mark-had i old new mask is same = ap (has_mark i) (sym same ∙ is) ∙ mark-or i old mask

-- one more mark
or-true : (a : Bool) → (a || true) ≡ true
or-true true = refl
or-true false = refl

or-false : (a : Bool) → (a || false) ≡ a
or-false true = refl
or-false false = refl

pub mark-one : (marks place i : ℕ) → place < 64 → has_mark i (bit_or marks (1 * 2 ^ place % 2 ^ 64)) ≡ (has_mark i marks || nat_eq place i)
mark-one marks place i within = elim (either (nat_eq place i)) [
  | inl t ↦
      let same : place ≡ i = eqb-true place i t in
      ap (λ n. nat_eq n 1) (subst (λ k. bit_at (bit_or marks (1 * 2 ^ place % 2 ^ 64)) k ≡ 1) same (bit_at_set_same w64 marks place within))
      ∙ sym (ap (λ b. has_mark i marks || b) t ∙ or-true (has_mark i marks))
  | inr f ↦
      ap (λ n. nat_eq n 1) (bit_at_set_other w64 marks place within i (λ same. true≢false (sym (eq-eqb place i (sym same)) ∙ f)))
      ∙ sym (ap (λ b. has_mark i marks || b) f ∙ or-false (has_mark i marks))
]
