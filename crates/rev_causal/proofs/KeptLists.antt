-- Kept events in a list: where a number stands, and what the lists that go with them are.
use Rattle.std.proofs.Common.{◌≡◌, ℕ, ◌<◌, ◌≤◌, ◌≢◌, cond, List, [], ◌∷◌, ◌++◌, map, length, take, drop, get_or, suc, ◌+◌, append-nil, drop-cons, take-append-drop, sym, refl, ap, subst, ◌∙◌, ne_eqb, eq-eqb, lt-ltb, le-ltb, ltb-true, ltb-false, ◌⊎◌, inl, inr, arith}
use Rattle.std.specs.Prelude.{nat_lt}
use Rattle.std.specs.List.{AllByRecursion}
use Rattle.std.proofs.lemmas.List.{take_more, drop_all}
use Rattle.std.specs.declared.option.Option.TheVariants.{None, Some}
use Rattle.rev_causal.specs.History.{IsRising, event_at, without, put}
use Rattle.rev_causal.specs.RegisterHistory.{numbered, AllBelow, IsPlaceOf}
use Rattle.rev_causal.specs.declared.registers.Event.{Event}
use Rattle.rev_causal.specs.declared.registers.history.Kept.{Kept}
use Rattle.rev_causal.proofs.Numbers as numbers
use Rattle.rev_causal.proofs.Runs.{either}

-- a list around one of its places
pub around : {A : Type 0} (xs : List A) (i : ℕ) (d : A) → i < length xs → xs ≡ take i xs ++ get_or xs i d ∷ drop (suc i) xs
around xs i d h = sym (take-append-drop i xs) ∙ ap (λ ys. take i xs ++ ys) (drop-cons xs i d h)

all_end : (P : Kept → Type 0) (xs : List Kept) (x : Kept) → AllByRecursion P xs → P x → AllByRecursion P (xs ++ x ∷ [])
all_end P [] x h p = (p, tt)
all_end P (y ∷ xs) x h p = (h.0, all_end P xs x h.1 p)

-- one place further, each number is still below
pub below_more : (n : ℕ) (kept : List Kept) (i : ℕ) (d : Kept) → i < length kept → AllBelow n (take i kept) → (get_or kept i d).number < n → AllBelow n (take (i + 1) kept)
below_more n kept i d h below lt = subst (AllBelow n) (sym (take_more kept i d h)) (all_end (λ (k : Kept). k.number < n) (take i kept) (get_or kept i d) below lt)

-- lists that go with the kept events, under their numbers
module _ {A : Type 0} (f : Kept → ℕ × A) (same : (k : Kept) → (f k).0 ≡ k.number) where
  -- what stands under a number behind lower ones
  pub found_by : (n : ℕ) (before : List Kept) (k : Kept) (later : List Kept) → AllBelow n before → k.number ≡ n → event_at n (map f (before ++ k ∷ later)) ≡ Some (f k).1
  found_by n [] k later below e = ap (λ b. cond b (Some (f k).1) (event_at n (map f later))) (eq-eqb (f k).0 n (same k ∙ e))
  found_by n (x ∷ before) k later below e =
      ap (λ b. cond b (Some (f x).1) (event_at n (map f (before ++ k ∷ later)))) (ne_eqb (f x).0 n (λ p. let lt : x.number < n = below.0 in let is : (f x).0 ≡ x.number = same x in omega arith)) ∙ found_by n before k later below.1 e

  pub without_by : (n : ℕ) (before : List Kept) (k : Kept) (later : List Kept) → AllBelow n before → k.number ≡ n → without n (map f (before ++ k ∷ later)) ≡ map f (before ++ later)
  without_by n [] k later below e = ap (λ b. cond b (map f later) (f k ∷ without n (map f later))) (eq-eqb (f k).0 n (same k ∙ e))
  without_by n (x ∷ before) k later below e =
      ap (λ b. cond b (map f (before ++ k ∷ later)) (f x ∷ without n (map f (before ++ k ∷ later)))) (ne_eqb (f x).0 n (λ p. let lt : x.number < n = below.0 in let is : (f x).0 ≡ x.number = same x in omega arith))
      ∙ ap (λ ys. f x ∷ ys) (without_by n before k later below.1 e)

  pub put_by : (before : List Kept) (k : Kept) (later : List Kept) → AllBelow k.number before → AllByRecursion (λ (x : Kept). k.number < x.number) later → put k.number (f k).1 (map f (before ++ later)) ≡ map f (before ++ k ∷ later)
  put_by [] k [] below above = λ i. (sym (same k) i, (f k).1) ∷ []
  put_by [] k (y ∷ later) below above =
      ap (λ b. cond b ((k.number, (f k).1) ∷ f y ∷ map f later) (f y ∷ put k.number (f k).1 (map f later))) (lt-ltb k.number (f y).0 (subst (λ j. k.number < j) (sym (same y)) above.0))
      ∙ (λ i. (sym (same k) i, (f k).1) ∷ f y ∷ map f later)
  put_by (x ∷ before) k later below above =
      let lt : x.number < k.number = below.0 in
      let is : (f x).0 ≡ x.number = same x in
      ap (λ b. cond b ((k.number, (f k).1) ∷ f x ∷ map f (before ++ later)) (f x ∷ put k.number (f k).1 (map f (before ++ later)))) (le-ltb k.number (f x).0 (omega arith))
      ∙ ap (λ ys. f x ∷ ys) (put_by before k later below.1 above)

above_missing : (n : ℕ) (j : ℕ) (ks : List Kept) → n < j → AllByRecursion (λ (x : ℕ × Event). j < x.0) (map numbered ks) → event_at n (map numbered ks) ≡ None
above_missing n j [] lt h = refl
above_missing n j (k ∷ ks) lt h =
    ap (λ b. cond b (Some k.event) (event_at n (map numbered ks))) (ne_eqb k.number n (λ p. let further : j < k.number = h.0 in omega arith)) ∙ above_missing n j ks lt h.1

-- nothing is kept under a number between two others
pub missing_between : (n : ℕ) (before : List Kept) (k : Kept) (later : List Kept) → AllBelow n before → n < k.number → IsRising (map numbered (before ++ k ∷ later)) → event_at n (map numbered (before ++ k ∷ later)) ≡ None
missing_between n [] k later below lt rising =
    ap (λ b. cond b (Some k.event) (event_at n (map numbered later))) (ne_eqb k.number n (λ p. omega arith)) ∙ above_missing n k.number later lt rising.0
missing_between n (x ∷ before) k later below lt rising =
    ap (λ b. cond b (Some x.event) (event_at n (map numbered (before ++ k ∷ later)))) (ne_eqb x.number n (λ p. let less : x.number < n = below.0 in omega arith)) ∙ missing_between n before k later below.1 lt rising.1

pub missing_above : (n : ℕ) (ks : List Kept) → AllBelow n ks → event_at n (map numbered ks) ≡ None
missing_above n [] below = refl
missing_above n (k ∷ ks) below =
    ap (λ b. cond b (Some k.event) (event_at n (map numbered ks))) (ne_eqb k.number n (λ p. let less : k.number < n = below.0 in omega arith)) ∙ missing_above n ks below.1

-- at a place whose number is greater, or at the end, the number is not kept
pub not_kept_at : (n : ℕ) (kept : List Kept) (place : ℕ) (d : Kept) → IsRising (map numbered kept) → IsPlaceOf n kept place → place < length kept → (get_or kept place d).number ≢ n → event_at n (map numbered kept) ≡ None
not_kept_at n kept place d rising p lt other =
    let le : n ≤ (get_or kept place d).number = p.reached lt d in
    let less : n < (get_or kept place d).number = omega arith in
    let split : kept ≡ take place kept ++ get_or kept place d ∷ drop (suc place) kept = around kept place d lt in
    subst (λ ks. event_at n (map numbered ks) ≡ None) (sym split)
    (missing_between n (take place kept) (get_or kept place d) (drop (suc place) kept) p.below less (subst (λ ks. IsRising (map numbered ks)) split rising))

pub not_kept_end : (n : ℕ) (kept : List Kept) (place : ℕ) → IsPlaceOf n kept place → length kept ≤ place → event_at n (map numbered kept) ≡ None
not_kept_end n kept place p le =
    let all : take place kept ≡ kept = sym (append-nil (take place kept)) ∙ ap (λ ys. take place kept ++ ys) (sym (drop_all place kept le)) ∙ take-append-drop place kept in
    missing_above n kept (subst (AllBelow n) all p.below)

-- what stands behind a number's place is above it
above_of_map : (n : ℕ) (ks : List Kept) → AllByRecursion (λ (x : ℕ × Event). n < x.0) (map numbered ks) → AllByRecursion (λ (k : Kept). n < k.number) ks
above_of_map n [] h = tt
above_of_map n (k ∷ ks) h = (h.0, above_of_map n ks h.1)

rising_behind : (before later : List Kept) → IsRising (map numbered (before ++ later)) → IsRising (map numbered later)
rising_behind [] later h = h
rising_behind (x ∷ before) later h = rising_behind before later h.1

above_head : (n : ℕ) (before : List Kept) (k : Kept) (later : List Kept) → AllBelow n before → n ≤ k.number → IsRising (map numbered (before ++ k ∷ later)) → event_at n (map numbered (before ++ k ∷ later)) ≡ None → AllByRecursion (λ (x : Kept). n < x.number) (k ∷ later)
above_head n before k later below le rising missing =
    let other : k.number ≡ n → ⊥ = λ p. (let w : Some k.event ≡ None = sym (found_by numbered (λ x. refl) n before k later below p) ∙ missing in absurd (cc)) in
    let lt : n < k.number = lt_of n k.number le other in
    (lt, above_of_map n later (numbers.all_further n k.number (map numbered later) lt (rising_behind before (k ∷ later) rising).0))
  where
    lt_of : (a b : ℕ) → a ≤ b → b ≢ a → a < b
    lt_of a b le ne = omega arith

pub above_place : (n : ℕ) (kept : List Kept) (place : ℕ) (d : Kept) → IsRising (map numbered kept) → IsPlaceOf n kept place → event_at n (map numbered kept) ≡ None → AllByRecursion (λ (x : Kept). n < x.number) (drop place kept)
above_place n kept place d rising p missing = elim (lt_or_le place (length kept)) [
  | inl lt ↦
      let split : kept ≡ take place kept ++ get_or kept place d ∷ drop (suc place) kept = around kept place d lt in
      subst (AllByRecursion (λ (x : Kept). n < x.number)) (sym (drop-cons kept place d lt))
      (above_head n (take place kept) (get_or kept place d) (drop (suc place) kept) p.below (p.reached lt d) (subst (λ ks. IsRising (map numbered ks)) split rising) (subst (λ ks. event_at n (map numbered ks) ≡ None) split missing))
  | inr le ↦ subst (AllByRecursion (λ (x : Kept). n < x.number)) (sym (drop_all place kept le)) tt
]
  where
    lt_or_le : (a b : ℕ) → (a < b) ⊎ (b ≤ a)
    lt_or_le a b = elim (either (nat_lt a b)) [ inl t ↦ inl (ltb-true a b t) | inr f ↦ inr (ltb-false a b f) ]
