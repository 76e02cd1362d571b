-- Numbers that rise, with one more and with one less.
use Rattle.std.proofs.Common.{◌≡◌, ℕ, ◌+◌, ◌-◌, ◌<◌, ◌≤◌, Bool, true, false, not, ◌&&◌, cond, List, [], ◌∷◌, ◌++◌, ◌||◌, filter, slice_get, length, get_or, drop, Some, Ok, Err, refl, sym, ap, ap₂, subst, ◌∙◌, inl, inr, true≢false, eq-eqb, ne_eqb, eqb-true, ltb-true, ltb-false, lt-ltb, le-ltb, arith, zero, suc}
use Rattle.std.specs.Prelude.{nat_eq, nat_lt}
use Rattle.std.specs.List.{AllByRecursion}
use Rattle.std.specs.List.Sorted.{IsBinarySearchResult}
use Rattle.std.specs.Ordering.{nat_cmp}
use Rattle.std.proofs.lemmas.List.Sorted.{searched}
use Rattle.rev_causal.specs.AccessLists.{first_above}
use Rattle.rev_causal.specs.Chosen.{IsRising, is_among, without, placed}
use Rattle.rev_causal.proofs.Chosen.{IsRising-filter, IsRising-placed, nat_eq_comm, rest_apart, without-not_among, placed-first, placed-next, rising_at}
use Rattle.rev_causal.proofs.Runs.{either}
use Rattle.rev_numbers.specs.Value.{with_number}

pub rising_without : (n : ℕ) (ks : List ℕ) → IsRising ks → IsRising (without n ks)
rising_without n ks rising = IsRising-filter (λ k. not (nat_eq k n)) ks rising

-- a number that is not there is not taken out
pub without-absent : (n : ℕ) (ks : List ℕ) → is_among ks n ≡ false → without n ks ≡ ks
without-absent n [] apart = refl
without-absent n (k ∷ ks) apart = elim (either (nat_eq n k)) [
  | inl t ↦ absurd (true≢false (sym (ap (λ b. b || is_among ks n) t) ∙ apart))
  | inr f ↦
      ap (λ b. cond (not b) (k ∷ without n ks) (without n ks)) (nat_eq_comm k n ∙ f)
      ∙ ap (λ xs. k ∷ xs) (without-absent n ks (rest_apart n k ks apart))
]

-- a number that is not the first stands below it or above it
apart_from : (n k : ℕ) (ks : List ℕ) → is_among (k ∷ ks) n ≡ false → nat_lt k n ≡ false → n < k
apart_from n k ks apart f = elim (either (nat_eq n k)) [
  | inl t ↦ absurd (true≢false (sym (ap (λ b. b || is_among ks n) t) ∙ apart))
  | inr o ↦
      let le : n ≤ k = ltb-false k n f in
      let ne : n ≡ k → ⊥ = λ e. true≢false (sym (eq-eqb n k e) ∙ o) in
      omega arith
]

-- a number that was put in is taken out
pub without-placed : (n : ℕ) (ks : List ℕ) → IsRising ks → is_among ks n ≡ false → without n (placed n ks) ≡ without n ks
without-placed n [] rising apart = ap (λ b. cond (not b) (n ∷ []) []) (eq-eqb n n refl)
without-placed n (k ∷ ks) rising apart = elim (either (nat_lt k n)) [
  | inl t ↦
      ap (without n) (placed-next n k ks (ltb-true k n t))
      ∙ ap (λ xs. cond (not (nat_eq k n)) (k ∷ xs) xs) (without-placed n ks rising.1 (rest_apart n k ks apart))
  | inr f ↦
      ap (without n) (placed-first n k ks rising (apart_from n k ks apart f))
      ∙ ap (λ b. cond (not b) (n ∷ without n (k ∷ ks)) (without n (k ∷ ks))) (eq-eqb n n refl)
]

among_end : (n : ℕ) (xs ys : List ℕ) → is_among (xs ++ n ∷ ys) n ≡ true
among_end n [] ys = ap (λ b. b || is_among ys n) (eq-eqb n n refl)
among_end n (x ∷ xs) ys = ap (λ b. nat_eq n x || b) (among_end n xs ys) ∙ or_true (nat_eq n x)
  where
    or_true : (b : Bool) → (b || true) ≡ true
    or_true true = refl
    or_true false = refl

-- a number that was put in is there, so that it is not put in again
pub with_number-twice : (n : ℕ) (ks : List ℕ) → with_number n (with_number n ks) ≡ with_number n ks
with_number-twice n ks = elim (either (is_among ks n)) [
  | inl t ↦ let once : with_number n ks ≡ ks = ap (λ b. cond b ks (placed n ks)) t in ap (with_number n) once
  | inr f ↦
      let once : with_number n ks ≡ placed n ks = ap (λ b. cond b ks (placed n ks)) f in
      ap (with_number n) once ∙ ap (λ b. cond b (placed n ks) (placed n (placed n ks))) (among_end n (filter (λ y. nat_lt y n) ks) (filter (λ y. nat_lt n y) ks)) ∙ sym once
]

-- what a search finds

above_at : (k : ℕ) (ks : List ℕ) (j : ℕ) → AllByRecursion (λ y. k < y) ks → j < length ks → k < get_or ks j 0
above_at k [] j h lt = absurd (omega arith)
above_at k (x ∷ ks) zero h lt = h.0
above_at k (x ∷ ks) (suc j) h lt = above_at k ks j h.1 (omega arith)

rising_lt : (ks : List ℕ) → IsRising ks → (i j : ℕ) → i < j → j < length ks → get_or ks i 0 < get_or ks j 0
rising_lt [] h i j lt within = absurd (omega arith)
rising_lt (k ∷ ks) h i zero lt within = absurd (omega arith)
rising_lt (k ∷ ks) h zero (suc j) lt within = above_at k ks j h.0 (omega arith)
rising_lt (k ∷ ks) h (suc i) (suc j) lt within = rising_lt ks h.1 i j (omega arith) (omega arith)

pub first_at : (ks : List ℕ) (place n : ℕ) → place ≤ length ks → ((j : ℕ) → j < place → get_or ks j 0 ≤ n) → ((j : ℕ) → place ≤ j → j < length ks → n < get_or ks j 0) → slice_get ks place ≡ first_above n ks
first_at [] place n le below above = refl
first_at (k ∷ ks) zero n le below above =
    let lt : n < k = above zero (omega arith) (omega arith) in
    sym (ap (λ b. cond b (Some k) (first_above n ks)) (lt-ltb n k lt))
first_at (k ∷ ks) (suc place) n le below above =
    let not_above : k ≤ n = below zero (omega arith) in
    first_at ks place n (omega arith) (λ j lt. below (suc j) (omega arith)) (λ j from within. above (suc j) (omega arith) (omega arith))
    ∙ sym (ap (λ b. cond b (Some k) (first_above n ks)) (le-ltb n k not_above))

-- from the place after the number, or its own, all are above it
pub record IsPlaceAbove (ks : List ℕ) (place n : ℕ) : Type 0 where
  pub within : place ≤ length ks
  pub below : (j : ℕ) → j < place → get_or ks j 0 ≤ n
  pub above : (j : ℕ) → place ≤ j → j < length ks → n < get_or ks j 0

pub place_after : (ks : List ℕ) (place n : ℕ) → IsRising ks → IsBinarySearchResult (λ y. nat_cmp y n) ks (Ok place) → IsPlaceAbove ks (place + 1) n
place_after ks place n rising h =
    let at : (place < length ks) × (get_or ks place 0 ≡ n) = searched ks n (Ok place) h (rising_at ks rising) in
    let within : place < length ks = at.0 in
    record {
      within = omega arith;
      below = λ j lt. let le : get_or ks j 0 ≤ get_or ks place 0 = rising_at ks rising j place (omega arith) within in let same : get_or ks place 0 ≡ n = at.1 in omega arith;
      above = λ j from lt. let less : get_or ks place 0 < get_or ks j 0 = rising_lt ks rising place j (omega arith) lt in let same : get_or ks place 0 ≡ n = at.1 in omega arith;
    }

pub place_from : (ks : List ℕ) (place n : ℕ) → IsRising ks → IsBinarySearchResult (λ y. nat_cmp y n) ks (Err place) → IsPlaceAbove ks place n
place_from ks place n rising h =
    let at : (place ≤ length ks) × ((k : ℕ) → k < place → get_or ks k 0 < n) × ((k : ℕ) → place ≤ k → k < length ks → n < get_or ks k 0) = searched ks n (Err place) h (rising_at ks rising) in
    record {
      within = at.0;
      below = λ j lt. let less : get_or ks j 0 < n = at.1 j lt in omega arith;
      above = at.2;
    }

-- a number that was taken out is not there
pub without-twice : (n : ℕ) (ks : List ℕ) → without n (without n ks) ≡ without n ks
without-twice n ks = without-absent n (without n ks) (without-not_among n ks)

-- numbers above a place

pub rising_drop : (i : ℕ) (ks : List ℕ) → IsRising ks → IsRising (drop i ks)
rising_drop zero ks h = h
rising_drop (suc i) [] h = h
rising_drop (suc i) (k ∷ ks) h = rising_drop i ks h.1

-- those from a place on are those above a number
pub among_drop : (ks : List ℕ) (place n : ℕ) → place ≤ length ks → ((j : ℕ) → j < place → get_or ks j 0 ≤ n) → ((j : ℕ) → place ≤ j → j < length ks → n < get_or ks j 0) → (k : ℕ) → is_among (drop place ks) k ≡ (is_among ks k && nat_lt n k)
among_drop [] zero n le below above k = refl
among_drop [] (suc place) n le below above k = refl
among_drop (x ∷ xs) zero n le below above k = elim (either (nat_eq k x)) [
  | inl t ↦
      let same : k ≡ x = eqb-true k x t in
      let lt : n < x = above zero (omega arith) (omega arith) in
      let up : nat_lt n k ≡ true = lt-ltb n k (omega arith) in
      ap (λ b. b || is_among xs k) t ∙ sym (ap₂ (λ a b. (a || is_among xs k) && b) t up)
  | inr f ↦
      ap (λ b. b || is_among xs k) f
      ∙ among_drop xs zero n (omega arith) (λ j lt. absurd (omega arith)) (λ j from lt. above (suc j) (omega arith) (omega arith)) k
      ∙ sym (ap (λ b. (b || is_among xs k) && nat_lt n k) f)
]
among_drop (x ∷ xs) (suc place) n le below above k = elim (either (nat_eq k x)) [
  | inl t ↦
      let same : k ≡ x = eqb-true k x t in
      let not_above : x ≤ n = below zero (omega arith) in
      let down : nat_lt n k ≡ false = le-ltb n k (omega arith) in
      among_drop xs place n (omega arith) (λ j lt. below (suc j) (omega arith)) (λ j from lt. above (suc j) (omega arith) (omega arith)) k
      ∙ ap (λ b. is_among xs k && b) down ∙ and_none (is_among xs k) ∙ sym (and_none (nat_eq k x || is_among xs k)) ∙ sym (ap (λ b. (nat_eq k x || is_among xs k) && b) down)
  | inr f ↦
      among_drop xs place n (omega arith) (λ j lt. below (suc j) (omega arith)) (λ j from lt. above (suc j) (omega arith) (omega arith)) k
      ∙ sym (ap (λ b. (b || is_among xs k) && nat_lt n k) f)
]
  where
    and_none : (b : Bool) → (b && false) ≡ false
    and_none true = refl
    and_none false = refl

-- A NUMBER ABOVE ALL OTHERS
-- all are below one that is above the last
below-place : (ks : List ℕ) (i l n : ℕ) → length ks ≡ suc i → IsRising ks → Some l ≡ slice_get ks i → l < n → AllByRecursion (λ k. k < n) ks
below-place [] i l n count rising at lt = tt
below-place (k ∷ []) zero l n count rising at lt = (let same : l ≡ k = cc in omega arith, tt)
below-place (k ∷ []) (suc i) l n count rising at lt = absurd (omega arith)
below-place (k ∷ m ∷ ks) zero l n count rising at lt = absurd (omega arith)
below-place (k ∷ m ∷ ks) (suc i) l n count rising at lt =
    let rest : AllByRecursion (λ j. j < n) (m ∷ ks) = below-place (m ∷ ks) i l n (omega arith) rising.1 at lt in
    (let one : k < m = rising.0.0 in let two : m < n = rest.0 in omega arith, rest)

pub below-last : (ks : List ℕ) (l n : ℕ) → IsRising ks → Some l ≡ slice_get ks (length ks - 1) → l < n → AllByRecursion (λ k. k < n) ks
below-last [] l n rising at lt = tt
below-last (k ∷ ks) l n rising at lt =
    let place : length (k ∷ ks) - 1 ≡ length ks = omega arith in
    below-place (k ∷ ks) (length ks) l n refl rising (at ∙ ap (slice_get (k ∷ ks)) place) lt

pub apart-above : (n : ℕ) (ks : List ℕ) → AllByRecursion (λ k. k < n) ks → is_among ks n ≡ false
apart-above n [] h = refl
apart-above n (k ∷ ks) h = ap (λ b. b || is_among ks n) (ne_eqb n k (λ e. let lt : k < n = h.0 in omega arith)) ∙ apart-above n ks h.1

placed-last : (n : ℕ) (ks : List ℕ) → AllByRecursion (λ k. k < n) ks → placed n ks ≡ ks ++ n ∷ []
placed-last n [] h = refl
placed-last n (k ∷ ks) h = placed-next n k ks h.0 ∙ ap (λ xs. k ∷ xs) (placed-last n ks h.1)

-- it comes last
pub with_number-last : (n : ℕ) (ks : List ℕ) → AllByRecursion (λ k. k < n) ks → with_number n ks ≡ ks ++ n ∷ []
with_number-last n ks h = ap (λ b. cond b ks (placed n ks)) (apart-above n ks h) ∙ placed-last n ks h

pub rising-last : (n : ℕ) (ks : List ℕ) → IsRising ks → AllByRecursion (λ k. k < n) ks → IsRising (ks ++ n ∷ [])
rising-last n ks rising h = subst IsRising (placed-last n ks h) (IsRising-placed n ks rising (apart-above n ks h))

-- the others stay
pub with_number-but : (n : ℕ) (ks : List ℕ) → IsRising ks → without n (with_number n ks) ≡ without n ks
with_number-but n ks rising = elim (either (is_among ks n)) [
  | inl t ↦ ap (λ b. without n (cond b ks (placed n ks))) t
  | inr f ↦ ap (λ b. without n (cond b ks (placed n ks))) f ∙ without-placed n ks rising f
]

pub rising_with : (n : ℕ) (ks : List ℕ) → IsRising ks → IsRising (with_number n ks)
rising_with n ks rising = elim (either (is_among ks n)) [
  | inl t ↦ subst (λ b. IsRising (cond b ks (placed n ks))) (sym t) rising
  | inr f ↦ subst (λ b. IsRising (cond b ks (placed n ks))) (sym f) (IsRising-placed n ks rising f)
]

-- a number that is there is not put in again
pub with_number-there : (n : ℕ) (ks : List ℕ) → is_among ks n ≡ true → ks ≡ with_number n ks
with_number-there n ks there = sym (ap (λ b. cond b ks (placed n ks)) there)

-- one that is not there is put at its place
pub with_number-apart : (n : ℕ) (ks : List ℕ) → is_among ks n ≡ false → placed n ks ≡ with_number n ks
with_number-apart n ks apart = sym (ap (λ b. cond b ks (placed n ks)) apart)
