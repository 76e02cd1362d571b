-- Rows of marks, and counts of them.
use Rattle.std.proofs.Common.{◌≡◌, ◌≢◌, ℕ, zero, suc, ◌+◌, ◌*◌, ◌<◌, ◌≤◌, Bool, true, false, cond, ◌&&◌, List, [], ◌∷◌, ◌++◌, length, take, set, get_or, inl, inr, arith, refl, ap, sym, subst, ◌∙◌}
use Rattle.std.proofs.lemmas.Bool.{cases_lt, cases_eq}
use Rattle.std.proofs.lemmas.List.{get_or_append_left, get_or_push, length_push, get_or-set_same, get_or-set_other, length-set}
use Rattle.std.proofs.lemmas.List.Folds.{list_all_more}
use Rattle.rev_ranks.specs.Sets.{is_marked}
use Rattle.rev_orders.specs.Orders.{at}
use Rattle.rev_orders.specs.Pairs.{are_before, count, count_pairs, is_before, IsAdded, IsNarrowed, IsRow}

same_cond : (a b : Bool) (j k : ℕ) → a ≡ b → j ≡ k → cond a (j + 1) j ≡ cond b (k + 1) k
same_cond a b j k e f = subst (λ (x : Bool). cond a (j + 1) j ≡ cond x (k + 1) k) e (ap (λ (n : ℕ). cond a (n + 1) n) f)

pub count_alike : (p q : ℕ → Bool) (n : ℕ) → ((k : ℕ) → k < n → p k ≡ q k) → count p n ≡ count q n
count_alike p q zero h = refl
count_alike p q (suc n) h = same_cond (p n) (q n) (count p n) (count q n) (h n (omega arith)) (count_alike p q n (λ k l. h k (omega arith)))

cond_within : (b : Bool) (k n : ℕ) → k ≤ n → cond b (k + 1) k ≤ suc n
cond_within true k n h = omega arith
cond_within false k n h = omega arith

pub count_within : (p : ℕ → Bool) (n : ℕ) → count p n ≤ n
count_within p zero = omega arith
count_within p (suc n) = cond_within (p n) (count p n) n (count_within p n)

pub count_more : (p : ℕ → Bool) (n : ℕ) → count p (n + 1) ≡ cond (p n) (count p n + 1) (count p n)
count_more p n = subst (λ m. count p m ≡ cond (p n) (count p n + 1) (count p n)) (let e : suc n ≡ n + 1 = omega arith in e) refl

pub pairs_alike : (p q : ℕ → ℕ → Bool) (n : ℕ) → ((j k : ℕ) → j < k → k < n → p j k ≡ q j k) → count_pairs p n ≡ count_pairs q n
pairs_alike p q zero h = refl
pairs_alike p q (suc n) h =
    let rest : count_pairs p n ≡ count_pairs q n = pairs_alike p q n (λ j k l m. h j k l (omega arith)) in
    let here : count (λ j. p j n) n ≡ count (λ j. q j n) n = count_alike (λ j. p j n) (λ j. q j n) n (λ j l. h j n l (omega arith)) in
    omega arith

pub pairs_more : (p : ℕ → ℕ → Bool) (n : ℕ) → count_pairs p (n + 1) ≡ count_pairs p n + count (λ j. p j n) n
pairs_more p n = subst (λ m. count_pairs p m ≡ count_pairs p n + count (λ j. p j n) n) (let e : suc n ≡ n + 1 = omega arith in e) refl

pub pairs_within : (p : ℕ → ℕ → Bool) (n : ℕ) → n ≤ 4294967296 → count_pairs p n ≤ n * 4294967296
pairs_within p zero h = omega arith
pairs_within p (suc n) h =
    let rest : count_pairs p n ≤ n * 4294967296 = pairs_within p n (omega arith) in
    let here : count (λ j. p j n) n ≤ n = count_within (λ j. p j n) n in
    omega arith

-- ROWS
pub row_none : (test : ℕ → Bool) → IsRow test 0 []
row_none test = record { each = refl; exact = λ j l. absurd (omega arith) }

pub row_more : (test : ℕ → Bool) (n : ℕ) (row : List Bool) (mark : Bool) → IsRow test n row → mark ≡ test n → IsRow test (n + 1) (row ++ mark ∷ [])
row_more test n row mark was is = record {
  each = length_push row mark ∙ ap (λ m. m + 1) was.each;
  exact = λ j l. elim (cases_lt j n) [
    | inl low ↦ get_or_append_left row (mark ∷ []) false j (let w : j < length row = omega (arith, was.each) in w) ∙ was.exact j low
    | inr high ↦
        let same : j ≡ n = omega arith in
        get_or_push row mark false j (was.each ∙ sym same) ∙ is ∙ ap test (sym same)
  ];
}

pub narrowed_none : (before : List Bool) (test : ℕ → Bool) → IsNarrowed before test 0 before 0
narrowed_none before test = record { each = refl; done = λ j l. absurd (omega arith); rest = λ j l. refl; left_is = refl }

pub narrowed_more : (before : List Bool) (test : ℕ → Bool) (n : ℕ) (row : List Bool) (left : ℕ) (stays : Bool) (more : ℕ) → IsNarrowed before test n row left → n < length before
    → stays ≡ (is_marked row n && test n) → more ≡ cond stays (left + 1) left → IsNarrowed before test (n + 1) (set row n stays) more
narrowed_more before test n row left stays more was within is sum = record {
  each = length-set row n stays ∙ was.each;
  done = λ j l. elim (cases_eq j n) [
    | inl same ↦ subst (λ i. get_or (set row n stays) i false ≡ (get_or before i false && test i)) (sym same) (get_or-set_same row n stays false (omega (arith, was.each)) ∙ here)
    | inr other ↦ get_or-set_other row n j stays false other ∙ was.done j (omega arith)
  ];
  rest = λ j l. get_or-set_other row n j stays false (omega arith) ∙ was.rest j (omega arith);
  left_is = sum ∙ same_cond stays (is_marked before n && test n) left (count (λ j. is_marked before j && test j) n) here was.left_is ∙ sym (count_more (λ j. is_marked before j && test j) n);
}
  where
    here : stays ≡ (is_marked before n && test n)
    here = is ∙ ap (λ b. b && test n) (was.rest n (omega arith))

and_assoc : (a b c : Bool) → ((a && b) && c) ≡ (a && (b && c))
and_assoc true b c = refl
and_assoc false b c = refl

-- NUMBERS TO WHICH A ROW IS ADDED
module _ (nodes : List ℕ) (place : ℕ) (orders : List (List ℕ)) (row_before : List Bool) (left_before : List ℕ) where
  pub added_none : IsAdded nodes place orders row_before left_before 0 row_before left_before
  added_none = record {
    each_mark = refl;
    each = refl;
    row_is = λ j l. sym (and_true (is_marked row_before j));
    added = λ i l. absurd (omega arith);
    kept = λ i l. refl;
  }
    where
      and_true : (a : Bool) → (a && true) ≡ a
      and_true true = refl
      and_true false = refl

  pub added_more : (n : ℕ) (row : List Bool) (left : List ℕ) (places : List ℕ) (row_after : List Bool) (more : ℕ) → IsAdded nodes place orders row_before left_before n row left
      → n < length orders → n < length left → places ≡ get_or orders n [] → IsNarrowed row (is_before nodes place places) place row_after more
      → IsAdded nodes place orders row_before left_before (n + 1) row_after (set left n (at left n + more))
  added_more n row left places row_after more was within room is narrowed = record {
    each_mark = narrowed.each ∙ was.each_mark;
    each = length-set left n (at left n + more) ∙ was.each;
    row_is = λ j l. narrowed.done j l ∙ now j l;
    added = λ i l. elim (cases_eq i n) [
      | inl same ↦ subst (λ m. at (set left n (at left n + more)) m ≡ at left_before m + count (λ j. is_marked row_before j && are_before nodes place (take (m + 1) orders) j) place) (sym same) here
      | inr other ↦ get_or-set_other left n i (at left n + more) 0 other ∙ was.added i (omega arith)
    ];
    kept = λ i l. get_or-set_other left n i (at left n + more) 0 (omega arith) ∙ was.kept i (omega arith);
  }
    where
      now : (j : ℕ) → j < place → (is_marked row j && is_before nodes place places j) ≡ (is_marked row_before j && are_before nodes place (take (n + 1) orders) j)
      now j l =
          ap (λ b. b && is_before nodes place places j) (was.row_is j l)
          ∙ and_assoc (is_marked row_before j) (are_before nodes place (take n orders) j) (is_before nodes place places j)
          ∙ ap (λ b. is_marked row_before j && b) (ap (λ ps. are_before nodes place (take n orders) j && is_before nodes place ps j) is ∙ sym (list_all_more (λ ps. is_before nodes place ps j) orders n [] within))

      here : at (set left n (at left n + more)) n ≡ at left_before n + count (λ j. is_marked row_before j && are_before nodes place (take (n + 1) orders) j) place
      here =
          let e : more ≡ count (λ j. is_marked row_before j && are_before nodes place (take (n + 1) orders) j) place =
          narrowed.left_is ∙ count_alike (λ j. is_marked row j && is_before nodes place places j) (λ j. is_marked row_before j && are_before nodes place (take (n + 1) orders) j) place now in
          get_or-set_same left n (at left n + more) 0 room ∙ ap (λ m. m + more) (was.kept n (omega arith)) ∙ ap (λ m. at left_before n + m) e
