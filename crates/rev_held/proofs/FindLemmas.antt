-- The first of a list that passes a test, and its place.
use Rattle.std.proofs.Common.{◌≡◌, ℕ, ◌+◌, ◌<◌, ◌≤◌, Bool, true, false, cond, not, ◌||◌, List, [], ◌∷◌, ◌++◌, length, Option, Some, None, refl, sym, ap, ◌∙◌, true≢false, arith}
use Rattle.std.specs.Prelude.{find}
use Rattle.std.specs.List.{list_any, position_or_len}
use Rattle.std.specs.Option.{option_or}

-- LISTS OF WHICH THE SAME IS FOUND
pub find-append : {A : Type 0} (p : A → Bool) (xs ys : List A) → find p (xs ++ ys) ≡ option_or (find p xs) (find p ys)
find-append p [] ys = refl
find-append p (x ∷ xs) ys = by (p x) (find-append p xs ys)
  where
    by : (b : Bool) → find p (xs ++ ys) ≡ option_or (find p xs) (find p ys) → cond b (Some x) (find p (xs ++ ys)) ≡ option_or (cond b (Some x) (find p xs)) (find p ys)
    by true rest = refl
    by false rest = rest

-- where none passes, one that is there does not
pub passes-not : {A : Type 0} (p q : A → Bool) (c : A) (ks : List A) → find p ks ≡ None → list_any q ks ≡ true → ((k : A) → q k ≡ true → c ≡ k) → p c ≡ false
passes-not p q c [] none any is = absurd (true≢false (sym any))
passes-not p q c (k ∷ ks) none any is = by (p k) (q k) refl refl none any (λ n a. passes-not p q c ks n a is)
  where
    by : (b d : Bool) → p k ≡ b → q k ≡ d → cond b (Some k) (find p ks) ≡ None → (d || list_any q ks) ≡ true → (find p ks ≡ None → list_any q ks ≡ true → p c ≡ false) → p c ≡ false
    by true d h e none any rest = absurd (true≢false cc)
    by false true h e none any rest = ap p (is k e) ∙ h
    by false false h e none any rest = rest none any

-- one more of a list, and of its keys where none of these is equal to it
pub find-next : {A : Type 0} (q : A → Bool) (c : A) (ks xs : List A) → ((k : A) → q k ≡ true → c ≡ k) → ((p : A → Bool) → find p ks ≡ find p xs) → (p : A → Bool)
    → find p (cond (list_any q ks) ks (ks ++ c ∷ [])) ≡ find p (xs ++ c ∷ [])
find-next {A} q c ks xs is same p = by (list_any q ks) refl
  where
    there : (o : Option A) → find p ks ≡ o → list_any q ks ≡ true → find p ks ≡ find p (xs ++ c ∷ [])
    there (Some a) h any = h ∙ sym (find-append p xs (c ∷ []) ∙ ap (λ o. option_or o (find p (c ∷ []))) (sym (same p) ∙ h))
    there None h any =
        h ∙ sym (find-append p xs (c ∷ []) ∙ ap (λ o. option_or o (find p (c ∷ []))) (sym (same p) ∙ h) ∙ ap (λ b. cond b (Some c) None) (passes-not p q c ks h any is))

    by : (b : Bool) → list_any q ks ≡ b → find p (cond b ks (ks ++ c ∷ [])) ≡ find p (xs ++ c ∷ [])
    by true any = there (find p ks) refl any
    by false any = find-append p ks (c ∷ []) ∙ ap (λ o. option_or o (find p (c ∷ []))) (same p) ∙ sym (find-append p xs (c ∷ []))

pub find-any : {A : Type 0} (p : A → Bool) (ks xs : List A) → find p ks ≡ find p xs → list_any p ks ≡ list_any p xs
find-any {A} p ks xs same = is ks ∙ ap some same ∙ sym (is xs)
  where
    some : Option A → Bool
    some (Some a) = true
    some None = false

    is : (ys : List A) → list_any p ys ≡ some (find p ys)
    is [] = refl
    is (y ∷ ys) = by (p y) (is ys)
      where
        by : (b : Bool) → list_any p ys ≡ some (find p ys) → (b || list_any p ys) ≡ some (cond b (Some y) (find p ys))
        by true rest = refl
        by false rest = rest

pub find-same : {A : Type 0} (p q : A → Bool) (xs : List A) → ((k : A) → p k ≡ q k) → find p xs ≡ find q xs
find-same p q [] h = refl
find-same p q (x ∷ xs) h = λ i. cond (h x i) (Some x) (find-same p q xs h i)

-- PLACES
pub place-same : {A : Type 0} (p q : A → Bool) (xs : List A) → ((k : A) → p k ≡ q k) → position_or_len p xs ≡ position_or_len q xs
place-same p q [] h = refl
place-same p q (x ∷ xs) h = λ i. cond (not (h x i)) (1 + place-same p q xs h i) 0

pub place-none : {A : Type 0} (xs : List A) → position_or_len (λ x. false) xs ≡ length xs
place-none [] = refl
place-none (x ∷ xs) = omega (arith, place-none xs)

-- where the second test passes first, or does not
pub place-earlier : {A : Type 0} (p q : A → Bool) (xs : List A) → position_or_len q xs < position_or_len p xs → position_or_len (λ w. p w || q w) xs ≡ position_or_len q xs
place-earlier p q [] h = refl
place-earlier p q (x ∷ xs) h = by (p x) (q x) (position_or_len p xs) (position_or_len q xs) (position_or_len (λ w. p w || q w) xs) (place-earlier p q xs) h
  where
    by : (d e : Bool) (a b r : ℕ) → (b < a → r ≡ b) → cond (not e) (1 + b) 0 < cond (not d) (1 + a) 0 → cond (not (d || e)) (1 + r) 0 ≡ cond (not e) (1 + b) 0
    by true true a b r rest h = absurd (omega (arith, h))
    by true false a b r rest h = absurd (omega (arith, h))
    by false true a b r rest h = refl
    by false false a b r rest h = let less : b < a = omega (arith, h) in ap (λ n. 1 + n) (rest less)

pub place-later : {A : Type 0} (p q : A → Bool) (xs : List A) → position_or_len p xs ≤ position_or_len q xs → position_or_len (λ w. p w || q w) xs ≡ position_or_len p xs
place-later p q [] h = refl
place-later p q (x ∷ xs) h = by (p x) (q x) (position_or_len p xs) (position_or_len q xs) (position_or_len (λ w. p w || q w) xs) (place-later p q xs) h
  where
    by : (d e : Bool) (a b r : ℕ) → (a ≤ b → r ≡ a) → cond (not d) (1 + a) 0 ≤ cond (not e) (1 + b) 0 → cond (not (d || e)) (1 + r) 0 ≡ cond (not d) (1 + a) 0
    by true e a b r rest h = refl
    by false true a b r rest h = absurd (omega (arith, h))
    by false false a b r rest h = let less : a ≤ b = omega (arith, h) in ap (λ n. 1 + n) (rest less)

pub place-within : {A : Type 0} (p : A → Bool) (xs : List A) → position_or_len p xs ≤ length xs
place-within p [] = omega arith
place-within p (x ∷ xs) = by (p x) (place-within p xs)
  where
    by : (b : Bool) → position_or_len p xs ≤ length xs → cond (not b) (1 + position_or_len p xs) 0 ≤ length (x ∷ xs)
    by true rest = omega arith
    by false rest = omega (arith, rest)
