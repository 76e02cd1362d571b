-- Lists: what a filter, a filter with a map, and lists joined in order contain.
use Rattle.std.proofs.Common.{◌≡◌, ℕ, zero, suc, ◌+◌, ◌<◌, Bool, true, cond, List, [], ◌∷◌, Contains, Option, Some, None, inl, inr, refl, sym, ap, subst, ◌∙◌, arith, true≢false}
use Rattle.std.specs.Prelude.{◌⊎◌, ◌||◌}
use Rattle.std.specs.List.{cons_option, filter, filter_map, flat_map, list_any, range_with_len}
use Rattle.std.proofs.lemmas.Bool.{cases_Bool, cases_eq, or_cases, or_left, or_right}
use Rattle.std.proofs.lemmas.List.Elements.{Contains-append_left, Contains-append_right}

pub contains-cases : {X : Type 0} (x z : X) (xs : List X) → Contains (x ∷ xs) z → (x ≡ z) ⊎ Contains xs z
contains-cases x z xs (zero, within, e) = inl e
contains-cases x z xs (suc k, within, e) = inr (k, omega (arith, within), e)

pub contains-here : {X : Type 0} (x : X) (xs : List X) → Contains (x ∷ xs) x
contains-here x xs = (0, omega arith, refl)

pub contains-later : {X : Type 0} (y x : X) (xs : List X) → Contains xs x → Contains (y ∷ xs) x
contains-later y x xs h = Contains-append_right (y ∷ []) xs x h

-- an item that passes
pub record Passing {X : Type 0} (p : X → Bool) (xs : List X) : Type 0 where
  pub item : X
  pub there : Contains xs item
  pub passes : p item ≡ true

pub passing : {X : Type 0} (p : X → Bool) (xs : List X) → list_any p xs ≡ true → Passing p xs
passing p [] h = absurd (true≢false (sym h))
passing p (x ∷ xs) h = elim (or_cases (p x) (list_any p xs) h) [
  | inl here ↦ record { item = x; there = contains-here x xs; passes = here }
  | inr later ↦
      let f = passing p xs later in
      record { item = f.item; there = contains-later x f.item xs f.there; passes = f.passes }
]

pub any-passes : {X : Type 0} (p : X → Bool) (xs : List X) (x : X) → Contains xs x → p x ≡ true → list_any p xs ≡ true
any-passes p [] x h passes = absurd (omega (arith, h.1))
any-passes p (y ∷ xs) x h passes = elim (contains-cases y x xs h) [
  | inl same ↦ or_left (p y) (list_any p xs) (ap p same ∙ passes)
  | inr later ↦ or_right (p y) (list_any p xs) (any-passes p xs x later passes)
]

-- some item passes the filter
pub record Begins {X : Type 0} (xs : List X) : Type 0 where
  pub first : X
  pub rest : List X
  pub is : xs ≡ first ∷ rest

pub filter-begins : {X : Type 0} (p : X → Bool) (xs : List X) → list_any p xs ≡ true → Begins (filter p xs)
filter-begins p [] h = absurd (true≢false (sym h))
filter-begins p (x ∷ xs) h = elim (cases_Bool (p x)) [
  | inl here ↦ record { first = x; rest = filter p xs; is = ap (λ b. cond b (x ∷ filter p xs) (filter p xs)) here }
  | inr not_here ↦
      let f = filter-begins p xs (ap (λ b. b || list_any p xs) (sym not_here) ∙ h) in
      record { first = f.first; rest = f.rest; is = ap (λ b. cond b (x ∷ filter p xs) (filter p xs)) not_here ∙ f.is }
]

pub contains-filter_map : {X Y : Type 0} (h : X → Option Y) (xs : List X) (x : X) (y : Y) → Contains xs x → h x ≡ Some y → Contains (filter_map h xs) y
contains-filter_map {X} {Y} h [] x y there is = absurd (omega (arith, there.1))
contains-filter_map {X} {Y} h (z ∷ xs) x y there is = elim (contains-cases z x xs there) [
  | inl same ↦ subst (λ o. Contains (cons_option o (filter_map h xs)) y) (sym (ap h same ∙ is)) (contains-here y (filter_map h xs))
  | inr later ↦ behind (h z) (contains-filter_map h xs x y later is)
]
  where
    behind : (o : Option Y) → Contains (filter_map h xs) y → Contains (cons_option o (filter_map h xs)) y
    behind None c = c
    behind (Some w) c = contains-later w y (filter_map h xs) c

pub contains-flat_map : {X Y : Type 0} (f : X → List Y) (xs : List X) (x : X) (y : Y) → Contains xs x → Contains (f x) y → Contains (flat_map f xs) y
contains-flat_map f [] x y there inside = absurd (omega (arith, there.1))
contains-flat_map f (z ∷ xs) x y there inside = elim (contains-cases z x xs there) [
  | inl same ↦ Contains-append_left (f z) (flat_map f xs) y (subst (λ w. Contains (f w) y) (sym same) inside)
  | inr later ↦ Contains-append_right (f z) (flat_map f xs) y (contains-flat_map f xs x y later inside)
]

pub contains-range : (a n x : ℕ) → a < x + 1 → x < a + n → Contains (range_with_len a n) x
contains-range a zero x above below = absurd (omega (arith, above, below))
contains-range a (suc n) x above below = elim (cases-from a x above) [
  | inl same ↦ subst (λ v. Contains (a ∷ range_with_len (a + 1) n) v) same (contains-here a (range_with_len (a + 1) n))
  | inr later ↦ contains-later a x (range_with_len (a + 1) n) (contains-range (a + 1) n x (omega (arith, later)) (omega (arith, below)))
]
  where
    cases-from : (a x : ℕ) → a < x + 1 → (a ≡ x) ⊎ (a < x)
    cases-from a x above = elim (cases_eq a x) [
      | inl same ↦ inl same
      | inr apart ↦ inr (omega (arith, above, apart))
    ]
