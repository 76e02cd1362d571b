-- Turns, and the order of a line.
use Rattle.std.proofs.Common.{◌≡◌, ℕ, zero, suc, ◌+◌, ◌-◌, ◌<◌, ◌≤◌, refl, false, inl, inr, List, ◌∷◌, length, get_or, map, arith, subst, ◌∙◌}
use Rattle.std.specs.List.Sorted.{IsPermutation, IsSortedBy}
use Rattle.std.specs.BinaryHeap.{IsUpperBound, lt_by_cmp}
use Rattle.std.specs.Ordering.{nat_cmp, ordering_then, is_lt}
use Rattle.std.specs.declared.cmp.Reverse.{Reverse}
use Rattle.std.proofs.lemmas.Bool.{cases_lt}
use Rattle.std.proofs.lemmas.Bool.Decides.{nat_tests}
use Rattle.std.proofs.lemmas.List.Elements.{All-from_recursion, All-contains, All-map}
use Rattle.std.proofs.lemmas.List.Sorted.{IsPermutation-map}
use Rattle.rev_schedule.specs.Turns.{Turn, GoesBefore, IsFirst}

-- what is not less by number and edge goes before
pub goes_before-of : (a0 a1 b0 b1 : ℕ) → is_lt (ordering_then (nat_cmp b0 a0) (nat_cmp b1 a1)) ≡ false → GoesBefore (a0, a1) (b0, b1)
goes_before-of a0 a1 b0 b1 h = elim (cases_lt a0 b0) [
  | inl less ↦ inl less
  | inr not_less ↦ elim (cases_lt b0 a0) [
    | inl more ↦ absurd (grind (arith, nat_tests))
    | inr not_more ↦ elim (cases_lt b1 a1) [
      | inl more ↦ absurd (grind (arith, nat_tests))
      | inr at_most ↦ inr (omega arith, at_most)
    ]
  ]
]

-- what a heap gives goes first of all that it had
pub first-of : (one : Reverse Turn) (every rest : List (Reverse Turn)) → IsPermutation every (one ∷ rest)
    → IsUpperBound (λ x y. ordering_then (nat_cmp y.0.0 x.0.0) (nat_cmp y.0.1 x.0.1)) one every
    → IsFirst one.0 (map (λ (r : Reverse Turn). r.0) every) (map (λ (r : Reverse Turn). r.0) rest)
first-of one every rest parts above = record {
  parts = IsPermutation-map (λ (r : Reverse Turn). r.0) every (one ∷ rest) parts;
  first = λ other is. All-contains (λ t. GoesBefore one.0 t) (map (λ (r : Reverse Turn). r.0) every) other
      (All-map (λ t. GoesBefore one.0 t) (λ (r : Reverse Turn). r.0) every
      (λ k d l. goes_before-of one.0.0 one.0.1 (get_or every k d).0.0 (get_or every k d).0.1
      (All-from_recursion (λ y. lt_by_cmp (λ x y. ordering_then (nat_cmp y.0.0 x.0.0) (nat_cmp y.0.1 x.0.1)) one y ≡ false) every above k d l))) is;
}

pub goes_before-trans : (a b c : Turn) → GoesBefore a b → GoesBefore b c → GoesBefore a c
goes_before-trans a b c (inl x) (inl y) = inl (omega arith)
goes_before-trans a b c (inl x) (inr y) = inl (omega (arith, y.0))
goes_before-trans a b c (inr x) (inl y) = inl (omega (arith, x.0))
goes_before-trans a b c (inr x) (inr y) = inr (x.0 ∙ y.0, omega (arith, x.1, y.1))

-- what is sorted by turn goes in turn
module _ (xs : List Turn) (up : IsSortedBy (λ x y. is_lt (ordering_then (nat_cmp x.0 y.0) (nat_cmp x.1 y.1))) xs) where
  rising-by : (n i : ℕ) (d : Turn) → i + n < length xs → GoesBefore (get_or xs i d) (get_or xs (i + n) d)
  rising-by zero i d h =
      let e : i ≡ i + 0 = omega arith in
      subst (λ k. GoesBefore (get_or xs i d) (get_or xs k d)) e (inr (refl, omega arith))
  rising-by (suc n) i d h =
      let e : i + n + 1 ≡ i + suc n = omega arith in
      let next : GoesBefore (get_or xs (i + n) d) (get_or xs (i + n + 1) d) =
      goes_before-of (get_or xs (i + n) d).0 (get_or xs (i + n) d).1 (get_or xs (i + n + 1) d).0 (get_or xs (i + n + 1) d).1 (up (i + n) d (omega arith) (omega arith)) in
      goes_before-trans (get_or xs i d) (get_or xs (i + n) d) (get_or xs (i + suc n) d) (rising-by n i d (omega arith))
      (subst (λ k. GoesBefore (get_or xs (i + n) d) (get_or xs k d)) e next)

  pub rising : (i j : ℕ) (d : Turn) → i ≤ j → j < length xs → GoesBefore (get_or xs i d) (get_or xs j d)
  rising i j d h l =
      let e : i + (j - i) ≡ j = omega arith in
      subst (λ k. GoesBefore (get_or xs i d) (get_or xs k d)) e (rising-by (j - i) i d (omega arith))
