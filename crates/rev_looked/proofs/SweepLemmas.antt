-- Where a path is last left before a number, and where it is next left after one, by numbers that rise.
use Rattle.std.proofs.Common.{◌≡◌, ℕ, zero, suc, ◌+◌, ◌<◌, ◌≤◌, Bool, true, false, ◌&&◌, ◌||◌, List, [], ◌∷◌, ◌++◌, reverse, Option, Some, None, refl, sym, ap, subst, ◌∙◌, arith, true≢false}
use Rattle.std.specs.Prelude.{◌==◌, filter, find, is_none, map, nat_le, nat_lt, if◌then◌else◌}
use Rattle.std.specs.List.{AllByRecursion, cons_option, filter_map, list_any, range_with_len}
use Rattle.std.specs.Option.{option_or}
use Rattle.std.proofs.lemmas.Bool.{eq-eqb, eqb-true, ne_eqb}
use Rattle.std.proofs.lemmas.Bool.Decides.{nat_tests}
use Rattle.std.proofs.lemmas.List.{reverse-append}
use Rattle.std.proofs.lemmas.List.Folds.{find-append}
use Rattle.rev_history.specs.Timeline.{IsRising}
use Rattle.rev_looked.specs.Needs.{is_number}
use Rattle.rev_looked.specs.Users.{is_there}

reverse-cons : (x : ℕ) (xs : List ℕ) → reverse (x ∷ xs) ≡ reverse xs ++ x ∷ []
reverse-cons x xs = reverse-append (x ∷ []) xs

abbrev tested : (ℕ → Bool) → ℕ → Option ℕ
tested q x = if q x then Some x else None

find-one : (q : ℕ → Bool) (x : ℕ) → find q (x ∷ []) ≡ tested q x
find-one q x = refl

-- the last of a list that passes, one by one from its front
last-cons : (q : ℕ → Bool) (x : ℕ) (xs : List ℕ) → find q (reverse (x ∷ xs)) ≡ option_or (find q (reverse xs)) (tested q x)
last-cons q x xs = ap (find q) (reverse-cons x xs) ∙ find-append q (reverse xs) (x ∷ [])

below-all : (x later : ℕ) (xs : List ℕ) → later ≤ x → AllByRecursion (λ y. x < y) xs → AllByRecursion (λ y. later ≤ y) xs
below-all x later [] from all = tt
below-all x later (y ∷ ys) from all = (let less = all.0 in omega (arith, from, less), below-all x later ys from all.1)

or-none : (o : Option ℕ) → option_or o None ≡ o
or-none None = refl
or-none (Some x) = refl

none-or-some : (o : Option ℕ) (x : ℕ) → is_none (option_or o (Some x)) ≡ false
none-or-some None x = refl
none-or-some (Some y) x = refl

-- a member of those behind a number
later-member : (ys : List ℕ) (n x : ℕ) → AllByRecursion (λ y. x < y) ys → list_any (λ k. k == n) ys ≡ true → x < n
later-member [] n x all is = absurd (true≢false (sym is))
later-member (y ∷ ys) n x all is = one (later-member ys n x all.1) (y == n) refl
  where
    one : (list_any (λ k. k == n) ys ≡ true → x < n) → (b : Bool) → (y == n) ≡ b → x < n
    one ih true f = subst (λ k. x < k) (eqb-true y n f) all.0
    one ih false f = ih (sym (ap (λ b. b || list_any (λ k. k == n) ys) f) ∙ is)

module _ (left : ℕ → Bool) (later : ℕ) where
  abbrev before : ℕ → Bool
  before k = nat_lt k later && left k

  abbrev last : List ℕ → Option ℕ
  last xs = find before (reverse xs)

  -- none of those that come later
  none-before : (xs : List ℕ) → AllByRecursion (λ y. later ≤ y) xs → last xs ≡ None
  none-before [] all = refl
  none-before (x ∷ xs) all =
      last-cons before x xs ∙ ap (λ o. option_or o (tested before x)) (none-before xs all.1) ∙ by (nat_lt x later) refl
    where
      by : (b : Bool) → nat_lt x later ≡ b → (if b && left x then Some x else None) ≡ None
      by true e = let low = all.0 in grind (arith, nat_tests)
      by false e = refl

  -- the last one comes behind a number that all come behind
  pub never-before : (n : ℕ) (xs : List ℕ) → AllByRecursion (λ y. n < y) xs → is_number n (last xs) ≡ false
  never-before n [] all = refl
  never-before n (x ∷ xs) all = ap (is_number n) (last-cons before x xs) ∙ by (last xs) (before x) (never-before n xs all.1)
    where
      by : (o : Option ℕ) (b : Bool) → is_number n o ≡ false → is_number n (option_or o (if b then Some x else None)) ≡ false
      by (Some k) b none = none
      by None true none = ne_eqb x n (λ e. let less = all.0 in omega (arith, e, less))
      by None false none = refl

  module _ (n : ℕ) where
    abbrev after : ℕ → Bool
    after k = nat_lt n k && left k

    abbrev next : List ℕ → Option ℕ
    next xs = find after xs

    -- of those behind a number: none was left before the later one exactly where the next is not
    behind : (xs : List ℕ) → AllByRecursion (λ y. n < y) xs → IsRising xs → is_none (last xs) ≡ is_there (next xs) later
    behind [] all rising = refl
    behind (x ∷ xs) all rising =
        ap is_none (last-cons before x xs) ∙ by (behind xs all.1 rising.1) (left x) (nat_lt x later) refl refl
      where
        more : nat_lt n x ≡ true
        more = let less = all.0 in grind (arith, nat_tests)

        by : is_none (last xs) ≡ is_there (next xs) later → (l b : Bool) → left x ≡ l → nat_lt x later ≡ b
            → is_none (option_or (last xs) (if nat_lt x later && left x then Some x else None)) ≡ is_there (next (x ∷ xs)) later
        by ih true true e f =
            ap (λ c. is_none (option_or (last xs) (if c then Some x else None))) (ap (λ b. b && left x) f ∙ e)
            ∙ none-or-some (last xs) x
            ∙ sym (ap (λ c. is_there (if c then Some x else next xs) later) (ap (λ b. b && left x) more ∙ e) ∙ (grind (arith, nat_tests)))
        by ih true false e f =
            ap (λ c. is_none (option_or (last xs) (if c then Some x else None))) (ap (λ b. b && left x) f)
            ∙ ap is_none (or-none (last xs) ∙ none-before xs (below-all x later xs (grind (arith, nat_tests)) rising.0))
            ∙ sym (ap (λ c. is_there (if c then Some x else next xs) later) (ap (λ b. b && left x) more ∙ e) ∙ (grind (arith, nat_tests)))
        by ih false true e f =
            ap (λ c. is_none (option_or (last xs) (if c then Some x else None))) (ap (λ b. b && left x) f ∙ e)
            ∙ ap is_none (or-none (last xs)) ∙ ih
            ∙ sym (ap (λ c. is_there (if c then Some x else next xs) later) (ap (λ b. b && left x) more ∙ e))
        by ih false false e f =
            ap (λ c. is_none (option_or (last xs) (if c then Some x else None))) (ap (λ b. b && left x) f)
            ∙ ap is_none (or-none (last xs)) ∙ ih
            ∙ sym (ap (λ c. is_there (if c then Some x else next xs) later) (ap (λ b. b && left x) more ∙ e))

    -- one that was not left is not the last
    pub not-left : (xs : List ℕ) → left n ≡ false → is_number n (last xs) ≡ false
    not-left [] unleft = refl
    not-left (x ∷ xs) unleft = ap (is_number n) (last-cons before x xs) ∙ by (last xs) (x == n) refl (not-left xs unleft)
      where
        test : (b : Bool) → (x == n) ≡ false → is_number n (if b then Some x else None) ≡ false
        test true e = e
        test false e = refl

        both : (b : Bool) → (b && false) ≡ false
        both true = refl
        both false = refl

        by : (o : Option ℕ) (b : Bool) → (x == n) ≡ b → is_number n o ≡ false → is_number n (option_or o (if before x then Some x else None)) ≡ false
        by (Some k) b e f = f
        by None false e f = test (before x) e
        by None true e f =
            ap (λ c. is_number n (if c then Some x else None)) (ap (λ l. nat_lt x later && l) (ap left (eqb-true x n e) ∙ unleft) ∙ both (nat_lt x later))

    -- a number that is none of them is not the last
    pub not-among : (xs : List ℕ) → list_any (λ k. k == n) xs ≡ false → is_number n (last xs) ≡ false
    not-among [] none = refl
    not-among (x ∷ xs) none = by (not-among xs) (x == n) refl
      where
        rest : (o : Option ℕ) (b : Bool) → (x == n) ≡ false → is_number n o ≡ false → is_number n (option_or o (if b then Some x else None)) ≡ false
        rest (Some k) b e f = f
        rest None true e f = e
        rest None false e f = refl

        by : (list_any (λ k. k == n) xs ≡ false → is_number n (last xs) ≡ false) → (b : Bool) → (x == n) ≡ b
            → is_number n (last (x ∷ xs)) ≡ false
        by ih true e = absurd (true≢false (sym (ap (λ b. b || list_any (λ k. k == n) xs) e) ∙ none))
        by ih false e =
            ap (is_number n) (last-cons before x xs)
            ∙ rest (last xs) (before x) e (ih (sym (ap (λ b. b || list_any (λ k. k == n) xs) e) ∙ none))

    -- one that is left, and is among them, is the last exactly where it is there still
    pub still-there : (xs : List ℕ) → IsRising xs → list_any (λ k. k == n) xs ≡ true → left n ≡ true → n < later
        → is_number n (last xs) ≡ is_there (next xs) later
    still-there [] rising there was less = absurd (true≢false (sym there))
    still-there (x ∷ xs) rising there was less = by (λ among. still-there xs rising.1 among was less) (x == n) refl
      where
        here : x ≡ n → is_number n (last (x ∷ xs)) ≡ is_there (next (x ∷ xs)) later
        here e =
            ap (is_number n) (last-cons before x xs)
            ∙ ap (λ c. is_number n (option_or (last xs) (if c then Some x else None))) passes
            ∙ first (last xs) (never-before n xs (subst (λ m. AllByRecursion (λ y. m < y) xs) e rising.0))
            ∙ behind xs (subst (λ m. AllByRecursion (λ y. m < y) xs) e rising.0) rising.1
            ∙ sym (ap (λ c. is_there (if c then Some x else next xs) later) skips)
          where
            passes : before x ≡ true
            passes = let low : nat_lt n later ≡ true = grind (arith, nat_tests) in ap before e ∙ ap (λ b. b && left n) low ∙ was

            skips : after x ≡ false
            skips = let past : nat_lt n x ≡ false = grind (arith, nat_tests) in ap (λ b. b && left x) past

            first : (o : Option ℕ) → is_number n o ≡ false → is_number n (option_or o (Some x)) ≡ is_none o
            first None f = eq-eqb x n e
            first (Some k) f = f

        further : (list_any (λ k. k == n) xs ≡ true → is_number n (last xs) ≡ is_there (next xs) later) → (x == n) ≡ false
            → is_number n (last (x ∷ xs)) ≡ is_there (next (x ∷ xs)) later
        further ih e =
            ap (is_number n) (last-cons before x xs) ∙ rest (last xs) (before x)
            ∙ ih among
            ∙ sym (ap (λ c. is_there (if c then Some x else next xs) later) (ap (λ b. b && left x) past))
          where
            among : list_any (λ k. k == n) xs ≡ true
            among = sym (ap (λ b. b || list_any (λ k. k == n) xs) e) ∙ there

            past : nat_lt n x ≡ false
            past = let low = later-member xs n x rising.0 among in grind (arith, nat_tests)

            rest : (o : Option ℕ) (b : Bool) → is_number n (option_or o (if b then Some x else None)) ≡ is_number n o
            rest (Some k) b = refl
            rest None true = e
            rest None false = refl

        by : (list_any (λ k. k == n) xs ≡ true → is_number n (last xs) ≡ is_there (next xs) later) → (b : Bool) → (x == n) ≡ b
            → is_number n (last (x ∷ xs)) ≡ is_there (next (x ∷ xs)) later
        by ih true e = here (eqb-true x n e)
        by ih false e = further ih e

-- WHAT IS PICKED OF A LIST
abbrev pub picked : {A B : Type 0} → (A → Bool) → (A → B) → Option A → Option B
picked q g None = None
picked q g (Some x) = if q x then Some (g x) else None

picked-cons : {A B : Type 0} (q : A → Bool) (g : A → B) (o : Option A) (rest : List A)
    → map g (filter q (cons_option o rest)) ≡ cons_option (picked q g o) (map g (filter q rest))
picked-cons q g None rest = refl
picked-cons q g (Some x) rest = by (q x)
  where
    by : (b : Bool) → map g (if b then x ∷ filter q rest else filter q rest) ≡ cons_option (if b then Some (g x) else None) (map g (filter q rest))
    by true = refl
    by false = refl

passing-cons : {B : Type 0} (r : ℕ → Bool) (h : ℕ → Option B) (a : ℕ) (rest : List ℕ)
    → filter_map h (if r a then a ∷ rest else rest) ≡ cons_option (if r a then h a else None) (filter_map h rest)
passing-cons r h a rest = by (r a)
  where
    by : (b : Bool) → filter_map h (if b then a ∷ rest else rest) ≡ cons_option (if b then h a else None) (filter_map h rest)
    by true = refl
    by false = refl

pub picked-range : {A B : Type 0} (f : ℕ → Option A) (q : A → Bool) (g : A → B) (r : ℕ → Bool) (h : ℕ → Option B) (a n : ℕ)
    → ((k : ℕ) → a ≤ k → k < a + n → picked q g (f k) ≡ (if r k then h k else None))
    → map g (filter q (filter_map f (range_with_len a n))) ≡ filter_map h (filter r (range_with_len a n))
picked-range f q g r h a zero same = refl
picked-range f q g r h a (suc n) same =
    picked-cons q g (f a) (filter_map f (range_with_len (a + 1) n))
    ∙ ap (λ o. cons_option o (map g (filter q (filter_map f (range_with_len (a + 1) n))))) (same a (omega arith) (omega arith))
    ∙ ap (cons_option (if r a then h a else None)) (picked-range f q g r h (a + 1) n (λ k low high. same k (omega arith) (omega arith)))
    ∙ sym (passing-cons r h a (filter r (range_with_len (a + 1) n)))

-- where nothing passes, nothing is given
pub none-given : {B : Type 0} (p : ℕ → Bool) (h : ℕ → Option B) (xs : List ℕ) → ((x : ℕ) → p x ≡ false → h x ≡ None) → list_any p xs ≡ false → filter_map h xs ≡ []
none-given p h [] none bare = refl
none-given p h (x ∷ xs) none bare = by (none-given p h xs none) (p x) refl
  where
    by : (list_any p xs ≡ false → filter_map h xs ≡ []) → (b : Bool) → p x ≡ b → filter_map h (x ∷ xs) ≡ []
    by ih true e = absurd (true≢false (sym (ap (λ b. b || list_any p xs) e) ∙ bare))
    by ih false e = ap (λ o. cons_option o (filter_map h xs)) (none x e) ∙ ih (sym (ap (λ b. b || list_any p xs) e) ∙ bare)
