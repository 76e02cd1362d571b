-- Lists: ranges, filters with a map, and tests of all items.
use Rattle.std.proofs.Common.{◌≡◌, ℕ, zero, suc, ◌+◌, ◌<◌, Bool, true, false, List, [], ◌∷◌, ◌++◌, map, length, get_or, Contains, Option, Some, None, inl, inr, refl, sym, ap, subst, ◌∙◌, arith, true≢false, append-nil}
use Rattle.std.specs.Prelude.{◌⊎◌, ◌&&◌}
use Rattle.std.specs.Global.{Vec}
use Rattle.std.specs.List.{cons_option, filter_map, list_all, range_with_len}
use Rattle.std.proofs.lemmas.Bool.{and_from, and_parts, cases_Bool, cases_eq}
use Rattle.std.proofs.lemmas.List.{map-append, get_or_default}
use Rattle.std.proofs.lemmas.List.Elements.{Contains-append_right, filter_map-append}
use Rattle.std.proofs.lemmas.List.Folds.{list_all-append, list_all_at}
use Rattle.std.proofs.lemmas.List.FromFn.{get_or-range_with_len, length-range_with_len}
use Rattle.rev_ranks.specs.Graph.{graph_of}

-- WHAT LISTS CONTAIN
pub contains-cases : {X : Type 0} (x z : X) (xs : List X) → Contains (x ∷ xs) z → (x ≡ z) ⊎ Contains xs z
contains-cases x z xs (zero, within, e) = inl e
contains-cases x z xs (suc k, within, e) = inr (k, omega (arith, within), e)

pub contains-here : {X : Type 0} (x : X) (xs : List X) → Contains (x ∷ xs) x
contains-here x xs = (0, omega arith, refl)

pub contains-later : {X : Type 0} (y x : X) (xs : List X) → Contains xs x → Contains (y ∷ xs) x
contains-later y x xs h = Contains-append_right (y ∷ []) xs x h

-- RANGES
range-more : (a n : ℕ) → range_with_len a (suc n) ≡ range_with_len a n ++ (a + n) ∷ []
range-more a zero = ap (λ x. x ∷ []) (omega arith)
range-more a (suc n) = ap (λ xs. a ∷ xs) (range-more (a + 1) n ∙ ap (λ x. range_with_len (a + 1) n ++ x ∷ []) (omega arith))

pub range-next : (n : ℕ) → range_with_len 0 (n + 1) ≡ range_with_len 0 n ++ n ∷ []
range-next n =
    let next : n + 1 ≡ suc n = omega arith in
    let here : 0 + n ≡ n = omega arith in
    ap (range_with_len 0) next ∙ range-more 0 n ∙ ap (λ x. range_with_len 0 n ++ x ∷ []) here

pub contains-range : (a n x : ℕ) → a < x + 1 → x < a + n → Contains (range_with_len a n) x
contains-range a zero x above below = absurd (omega (arith, above, below))
contains-range a (suc n) x above below = elim (cases-from a x above) [
  | inl same ↦ subst (λ v. Contains (a ∷ range_with_len (a + 1) n) v) same (contains-here a (range_with_len (a + 1) n))
  | inr later ↦ contains-later a x (range_with_len (a + 1) n) (contains-range (a + 1) n x (omega (arith, later)) (omega (arith, below)))
]
  where
    cases-from : (a x : ℕ) → a < x + 1 → (a ≡ x) ⊎ (a < x)
    cases-from a x above = elim (cases_eq a x) [
      | inl same ↦ inl same
      | inr apart ↦ inr (omega (arith, above, apart))
    ]

pub in-range : (n x : ℕ) → Contains (range_with_len 0 n) x → x < n
in-range n x h =
    let within : h.0 < n = omega (arith, h.1, length-range_with_len 0 n) in
    omega (arith, within, sym (get_or-range_with_len 0 n h.0 x within) ∙ h.2)

-- FILTERS WITH A MAP
pub contains-filter_map : (h : ℕ → Option ℕ) (xs : List ℕ) (x y : ℕ) → Contains xs x → h x ≡ Some y → Contains (filter_map h xs) y
contains-filter_map h [] x y there is = absurd (omega (arith, there.1))
contains-filter_map h (z ∷ xs) x y there is = elim (contains-cases z x xs there) [
  | inl same ↦ subst (λ o. Contains (cons_option o (filter_map h xs)) y) (sym (ap h same ∙ is)) (contains-here y (filter_map h xs))
  | inr later ↦ behind (h z) (contains-filter_map h xs x y later is)
]
  where
    behind : (o : Option ℕ) → Contains (filter_map h xs) y → Contains (cons_option o (filter_map h xs)) y
    behind None c = c
    behind (Some w) c = contains-later w y (filter_map h xs) c

-- an item from which another one comes
pub record Mapped (h : ℕ → Option ℕ) (xs : List ℕ) (y : ℕ) : Type 0 where
  pub item : ℕ
  pub there : Contains xs item
  pub is : h item ≡ Some y

mapped-later : (h : ℕ → Option ℕ) (z : ℕ) (xs : List ℕ) (y : ℕ) → Mapped h xs y → Mapped h (z ∷ xs) y
mapped-later h z xs y m = record { item = m.item; there = contains-later z m.item xs m.there; is = m.is }

mapped-by : (h : ℕ → Option ℕ) (z : ℕ) (xs : List ℕ) (y : ℕ) (o : Option ℕ) → h z ≡ o → (Contains (filter_map h xs) y → Mapped h xs y) → Contains (cons_option o (filter_map h xs)) y → Mapped h (z ∷ xs) y
mapped-by h z xs y None is rest c = mapped-later h z xs y (rest c)
mapped-by h z xs y (Some w) is rest c = elim (contains-cases w y (filter_map h xs) c) [
  | inl same ↦ record { item = z; there = contains-here z xs; is = is ∙ ap Some same }
  | inr later ↦ mapped-later h z xs y (rest later)
]

pub of-filter_map : (h : ℕ → Option ℕ) (xs : List ℕ) (y : ℕ) → Contains (filter_map h xs) y → Mapped h xs y
of-filter_map h [] y c = absurd (omega (arith, c.1))
of-filter_map h (z ∷ xs) y c = mapped-by h z xs y (h z) refl (of-filter_map h xs y) c

-- ONE NUMBER AFTER THE OTHER
pub some-next : (f : ℕ → Option ℕ) (n y : ℕ) (old new : List ℕ) → old ≡ filter_map f (range_with_len 0 n) → f n ≡ Some y → new ≡ old ++ y ∷ [] → new ≡ filter_map f (range_with_len 0 (n + 1))
some-next f n y old new before is added =
    added ∙ ap (λ ys. ys ++ y ∷ []) before
    ∙ sym (ap (filter_map f) (range-next n) ∙ filter_map-append f (range_with_len 0 n) (n ∷ []) ∙ ap (λ o. filter_map f (range_with_len 0 n) ++ cons_option o []) is)

pub none-next : (f : ℕ → Option ℕ) (n : ℕ) (old : List ℕ) → old ≡ filter_map f (range_with_len 0 n) → f n ≡ None → old ≡ filter_map f (range_with_len 0 (n + 1))
none-next f n old before is =
    before
    ∙ sym (ap (filter_map f) (range-next n) ∙ filter_map-append f (range_with_len 0 n) (n ∷ []) ∙ ap (λ o. filter_map f (range_with_len 0 n) ++ cons_option o []) is ∙ append-nil (filter_map f (range_with_len 0 n)))

pub lists-next : (f : ℕ → List ℕ) (n : ℕ) (old new : List (Vec ℕ)) (v : Vec ℕ) → graph_of old ≡ map f (range_with_len 0 n) → v.items ≡ f n → new ≡ old ++ v ∷ [] → graph_of new ≡ map f (range_with_len 0 (n + 1))
lists-next f n old new v before is added =
    ap graph_of added ∙ map-append (λ (w : Vec ℕ). w.items) old (v ∷ []) ∙ ap (λ ys. ys ++ v.items ∷ []) before ∙ ap (λ y. map f (range_with_len 0 n) ++ y ∷ []) is
    ∙ sym (ap (map f) (range-next n) ∙ map-append f (range_with_len 0 n) (n ∷ []))

-- ALL PASS
pub all-next : (p : ℕ → Bool) (n : ℕ) → list_all p (range_with_len 0 n) ≡ true → p n ≡ true → list_all p (range_with_len 0 (n + 1)) ≡ true
all-next p n before here =
    ap (list_all p) (range-next n) ∙ list_all-append p (range_with_len 0 n) (n ∷ [])
    ∙ and_from (list_all p (range_with_len 0 n)) (p n && true) before (and_from (p n) true here refl)

pub all-fails : (p : ℕ → Bool) (n count : ℕ) → n < count → p n ≡ false → list_all p (range_with_len 0 count) ≡ false
all-fails p n count within fails =
    let here : get_or (range_with_len 0 count) n 0 ≡ n = get_or-range_with_len 0 count n 0 within ∙ omega arith in
    let inside : n < length (range_with_len 0 count) = omega (arith, within, length-range_with_len 0 count) in
    list_all_at p (range_with_len 0 count) n 0 inside (ap p here ∙ fails)

pub all-of-none : (p : ℕ → Bool) (xs : List ℕ) → length xs ≡ 0 → list_all p xs ≡ true
all-of-none p [] none = refl
all-of-none p (x ∷ xs) none = absurd (omega (arith, none))

pub all-at : (p : ℕ → Bool) (xs : List ℕ) (x : ℕ) → list_all p xs ≡ true → Contains xs x → p x ≡ true
all-at p [] x all there = absurd (omega (arith, there.1))
all-at p (z ∷ xs) x all there = elim (contains-cases z x xs there) [
  | inl same ↦ ap p (sym same) ∙ (and_parts (p z) (list_all p xs) all).0
  | inr later ↦ all-at p xs x (and_parts (p z) (list_all p xs) all).1 later
]

pub all-from : (p : ℕ → Bool) (xs : List ℕ) → ((x : ℕ) → Contains xs x → p x ≡ true) → list_all p xs ≡ true
all-from p [] each = refl
all-from p (z ∷ xs) each = and_from (p z) (list_all p xs) (each z (contains-here z xs)) (all-from p xs (λ x there. each x (contains-later z x xs there)))

pub all-agree : (p q : ℕ → Bool) → ((x : ℕ) → p x ≡ q x) → (xs : List ℕ) → list_all p xs ≡ list_all q xs
all-agree p q same [] = refl
all-agree p q same (x ∷ xs) = ap (λ b. b && list_all p xs) (same x) ∙ ap (λ b. q x && b) (all-agree p q same xs)
