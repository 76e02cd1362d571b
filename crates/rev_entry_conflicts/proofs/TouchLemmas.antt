-- Numbers of ranges, one after the other, and in their order.
use Rattle.std.proofs.Common.{◌≡◌, ℕ, zero, suc, ◌+◌, ◌<◌, ◌≤◌, nat_le, Bool, true, false, cond, List, [], ◌∷◌, ◌++◌, length, get_or, take, Contains, ◌⊎◌, inl, inr, refl, sym, ap, subst, ◌∙◌, arith, true≢false}
use Rattle.std.specs.Prelude.{◌↔◌, ◌≢◌, AllPairs, eqb}
use Rattle.std.specs.List.{dedup, filter, range_with_len}
use Rattle.std.specs.Ordering.{nat_cmp}
use Rattle.std.specs.List.Sorted.{IsPermutation, IsSorted}
use Rattle.std.proofs.lemmas.List.Kept.{AllPairs-from_increasing, Contains-dedup_nat, Contains-from_dedup}
use Rattle.std.proofs.lemmas.List.Sorted.{Contains-permutation, IsPermutation-sym}
use Rattle.std.proofs.lemmas.Map.Keys.{IsStrictlyIncreasing-dedup}
use Rattle.std.proofs.lemmas.Bool.{and_from, and_parts, cases_Bool, cases_eq, leb-true, le-leb, or_cases, or_left, or_right}
use Rattle.std.proofs.lemmas.List.Elements.{Contains-append_left, Contains-push, Contains-push_cases}
use Rattle.std.proofs.lemmas.List.Folds.{list_any_more}
use Rattle.rev_entry_conflicts.specs.declared.deed.Deed.{Deed}
use Rattle.rev_entry_conflicts.specs.Deeds.{is_at}
use Rattle.rev_entry_conflicts.specs.Touches.{is_touch, touch_at, touched_by}
use Rattle.rev_entry_conflicts.proofs.ListLemmas.{contains-cases, contains-here, contains-later}

pub either-more : {A C : Type 0} {P Q : Type 0} → (C ↔ (A ⊎ P)) → (P ↔ Q) → C ↔ (A ⊎ Q)
either-more {A} {C} {P} {Q} before same = (forth, back)
  where
    forth : C → A ⊎ Q
    forth c = elim (before.0 c) [ inl a ↦ inl a | inr p ↦ inr (same.0 p) ]

    back : A ⊎ Q → C
    back (inl a) = before.1 (inl a)
    back (inr q) = before.1 (inr (same.1 q))

-- one step after another
pub either-then : {A B C : Type 0} {P Q R : Type 0} → (B ↔ (A ⊎ P)) → (C ↔ (B ⊎ Q)) → (R ↔ (P ⊎ Q)) → C ↔ (A ⊎ R)
either-then {A} {B} {C} {P} {Q} {R} one two both = (forth, back)
  where
    forth : C → A ⊎ R
    forth c = elim (two.0 c) [
      | inl b ↦ elim (one.0 b) [ inl a ↦ inl a | inr p ↦ inr (both.1 (inl p)) ]
      | inr q ↦ inr (both.1 (inr q))
    ]

    back : A ⊎ R → C
    back (inl a) = two.1 (inl (one.1 (inl a)))
    back (inr r) = elim (both.0 r) [
      | inl p ↦ two.1 (inl (one.1 (inr p)))
      | inr q ↦ two.1 (inr q)
    ]

pub nothing-more : {A : Type 0} {P : Type 0} → (P → ⊥) → A ↔ (A ⊎ P)
nothing-more none = (λ a. inl a, λ h. elim h [ inl a ↦ a | inr p ↦ absurd (none p) ])

pub pushed : {X : Type 0} (xs all : List X) (y x : X) → all ≡ xs ++ y ∷ [] → Contains all x ↔ (Contains xs x ⊎ (x ≡ y))
pushed xs all y x is = (
  λ c. elim (Contains-push_cases xs y x (subst (λ l. Contains l x) is c)) [ inl old ↦ inl old | inr same ↦ inr (sym same) ],
  λ h. subst (λ l. Contains l x) (sym is) (elim h [
    | inl old ↦ Contains-append_left xs (y ∷ []) x old
    | inr same ↦ subst (λ z. Contains (xs ++ y ∷ []) z) (sym same) (Contains-push xs y)
  ]),
)

-- ONE RANGE
-- the numbers from one up to another
pub record IsBetween (from to n : ℕ) : Type 0 where
  pub above : from ≤ n
  pub below : n < to

pub between-none : {A : Type 0} (from n : ℕ) → A ↔ (A ⊎ IsBetween from from n)
between-none from n = nothing-more (λ b. let x = b.above in let y = b.below in omega (arith, x, y))

pub between-more : {A B C : Type 0} (from to n : ℕ) → from ≤ to → (B ↔ (A ⊎ IsBetween from to n)) → (C ↔ (B ⊎ (n ≡ to))) → C ↔ (A ⊎ IsBetween from (to + 1) n)
between-more from to n rises before step = either-then before step (
  λ b. elim (cases_eq n to) [
    | inl same ↦ inr same
    | inr apart ↦ let x = b.below in inl (record { above = b.above; below = omega (arith, x, apart) })
  ],
  λ h. elim h [
    | inl b ↦ let x = b.below in record { above = b.above; below = omega (arith, x) }
    | inr same ↦ record { above = omega (arith, same, rises); below = omega (arith, same) }
  ],
)

pub between-is : (deed : Deed) (count end n : ℕ) → ((n : ℕ) → n < end → n < count) → ((n : ℕ) → n < end → n < deed.last + 1) → ((n : ℕ) → n < count → n < deed.last + 1 → n < end)
    → IsBetween deed.first end n ↔ ((n < count) × (is_at n deed ≡ true))
between-is deed count end n within last whole = (
  λ b. (within n b.below, let l = last n b.below in and_from (nat_le deed.first n) (nat_le n deed.last) (le-leb deed.first n b.above) (le-leb n deed.last (omega (arith, l)))),
  λ h.
      let both = and_parts (nat_le deed.first n) (nat_le n deed.last) h.1 in
      let l = leb-true n deed.last both.1 in
      record { above = leb-true deed.first n both.0; below = whole n h.0 (omega (arith, l)) },
)

pub between-never : (deed : Deed) (count end n : ℕ) → end ≤ deed.first → ((n : ℕ) → n < count → n < deed.last + 1 → n < end) → ((n < count) × (is_at n deed ≡ true)) → ⊥
between-never deed count end n past whole h =
    let both = and_parts (nat_le deed.first n) (nat_le n deed.last) h.1 in
    let l = leb-true n deed.last both.1 in
    let f = leb-true deed.first n both.0 in
    let below : n < end = whole n h.0 (omega (arith, l)) in
    omega (arith, past, f, below)

-- ALL RANGES
pub deeds-more : {A B C : Type 0} (deeds : List Deed) (i n count : ℕ) (deed : Deed) → i < length deeds → deed ≡ get_or deeds i deed → (B ↔ (A ⊎ ((n < count) × (touched_by (take i deeds) n ≡ true))))
    → (C ↔ (B ⊎ ((n < count) × (touch_at n deed ≡ true)))) → C ↔ (A ⊎ ((n < count) × (touched_by (take (i + 1) deeds) n ≡ true)))
deeds-more deeds i n count deed within is before step = either-then before step (
  λ h. elim (or_cases (touched_by (take i deeds) n) (touch_at n (get_or deeds i deed)) (sym (list_any_more (touch_at n) deeds i deed within) ∙ h.1)) [
    | inl old ↦ inl (h.0, old)
    | inr new ↦ inr (h.0, ap (touch_at n) is ∙ new)
  ],
  λ h. elim h [
    | inl old ↦ (old.0, list_any_more (touch_at n) deeds i deed within ∙ or_left (touched_by (take i deeds) n) (touch_at n (get_or deeds i deed)) old.1)
    | inr new ↦ (new.0, list_any_more (touch_at n) deeds i deed within ∙ or_right (touched_by (take i deeds) n) (touch_at n (get_or deeds i deed)) (ap (touch_at n) (sym is) ∙ new.1))
  ],
)

-- IN ORDER
below-rest : (x : ℕ) (xs : List ℕ) (n : ℕ) → AllPairs (λ a b. a < b) (x ∷ xs) → Contains xs n → x < n
below-rest x xs n rises (k, within, is) = subst (λ v. x < v) is (rises 0 (suc k) n (omega arith) (omega (arith, within)))

rest-rises : (x : ℕ) (xs : List ℕ) → AllPairs (λ a b. a < b) (x ∷ xs) → AllPairs (λ a b. a < b) xs
rest-rises x xs rises i j d less within = rises (suc i) (suc j) d (omega (arith, less)) (omega (arith, within))

-- the numbers of a list are those of a range that pass a test
abbrev Are : (ℕ → Bool) → ℕ → ℕ → List ℕ → Type 0
Are P a k xs = (n : ℕ) → Contains xs n ↔ ((a < n + 1) × ((n < a + k) × (P n ≡ true)))

-- where the first number of the range does not pass, they are those of the rest
are-rest : (P : ℕ → Bool) (a k : ℕ) (xs : List ℕ) → P a ≡ false → Are P a (suc k) xs → Are P (a + 1) k xs
are-rest P a k xs fails are n = (
  λ c. let h = (are n).0 c in let l = h.0 in let u = h.1.0 in let apart : n ≢ a = (λ same. true≢false (sym h.1.1 ∙ ap P same ∙ fails)) in (omega (arith, l, apart), (omega (arith, u), h.1.1)),
  λ h. let l = h.0 in let u = h.1.0 in (are n).1 (omega (arith, l), (omega (arith, u), h.1.1)),
)

-- where it passes, it is the first of them
are-first : (P : ℕ → Bool) (a k x : ℕ) (xs : List ℕ) → P a ≡ true → AllPairs (λ a b. a < b) (x ∷ xs) → Are P a (suc k) (x ∷ xs) → x ≡ a
are-first P a k x xs passes rises are = elim (contains-cases x a xs ((are a).1 (omega arith, (omega arith, passes)))) [
  | inl same ↦ same
  | inr later ↦ let l = below-rest x xs a rises later in let f = (are x).0 (contains-here x xs) in let g = f.0 in absurd (omega (arith, l, g))
]

are-behind : (P : ℕ → Bool) (a k x : ℕ) (xs : List ℕ) → x ≡ a → AllPairs (λ a b. a < b) (x ∷ xs) → Are P a (suc k) (x ∷ xs) → Are P (a + 1) k xs
are-behind P a k x xs first rises are n = (
  λ c. let h = (are n).0 (contains-later x n xs c) in let l = below-rest x xs n rises c in let u = h.1.0 in (omega (arith, l, first), (omega (arith, u), h.1.1)),
  λ h. let l = h.0 in let u = h.1.0 in elim (contains-cases x n xs ((are n).1 (omega (arith, l), (omega (arith, u), h.1.1)))) [
    | inl same ↦ absurd (omega (arith, l, first, same))
    | inr later ↦ later
  ],
)

-- Numbers that rise, and are those of a range that pass a test, are the filtered range.
pub rising-filter : (P : ℕ → Bool) (k a : ℕ) (xs : List ℕ) → AllPairs (λ a b. a < b) xs → Are P a k xs → xs ≡ filter P (range_with_len a k)
rising-filter P zero a [] rises are = refl
rising-filter P zero a (x ∷ xs) rises are = let h = (are x).0 (contains-here x xs) in let l = h.0 in let u = h.1.0 in absurd (omega (arith, l, u))
rising-filter P (suc k) a [] rises are = elim (cases_Bool (P a)) [
  | inl passes ↦ let h = (are a).1 (omega arith, (omega arith, passes)) in let w = h.1 in absurd (omega (arith, w))
  | inr fails ↦ rising-filter P k (a + 1) [] rises (are-rest P a k [] fails are) ∙ sym (ap (λ b. cond b (a ∷ filter P (range_with_len (a + 1) k)) (filter P (range_with_len (a + 1) k))) fails)
]
rising-filter P (suc k) a (x ∷ xs) rises are = elim (cases_Bool (P a)) [
  | inl passes ↦
      let first : x ≡ a = are-first P a k x xs passes rises are in
      ap (λ v. v ∷ xs) first ∙ ap (λ v. a ∷ v) (rising-filter P k (a + 1) xs (rest-rises x xs rises) (are-behind P a k x xs first rises are))
      ∙ sym (ap (λ b. cond b (a ∷ filter P (range_with_len (a + 1) k)) (filter P (range_with_len (a + 1) k))) passes)
  | inr fails ↦
      rising-filter P k (a + 1) (x ∷ xs) rises (are-rest P a k (x ∷ xs) fails are) ∙ sym (ap (λ b. cond b (a ∷ filter P (range_with_len (a + 1) k)) (filter P (range_with_len (a + 1) k))) fails)
]

-- a deed that leaves or ensures something
pub touch-is : (deed : Deed) (n count : ℕ) → is_touch deed ≡ true → ((n < count) × (is_at n deed ≡ true)) ↔ ((n < count) × (touch_at n deed ≡ true))
touch-is deed n count t = (λ h. (h.0, and_from (is_touch deed) (is_at n deed) t h.1), λ h. (h.0, (and_parts (is_touch deed) (is_at n deed) h.1).1))

pub touch-never : (deed : Deed) (n count : ℕ) → is_touch deed ≡ false → ((n < count) × (touch_at n deed ≡ true)) → ⊥
touch-never deed n count t h = true≢false (sym (and_parts (is_touch deed) (is_at n deed) h.1).0 ∙ t)

-- Sorted, and each once, the numbers are in their order.
pub touched-are : (P : ℕ → Bool) (count : ℕ) (first xs zs ys : List ℕ) → first ≡ [] → ((n : ℕ) → Contains xs n ↔ (Contains first n ⊎ ((n < count) × (P n ≡ true)))) → IsPermutation xs zs → IsSorted nat_cmp zs → ys ≡ dedup eqb zs
    → ys ≡ filter P (range_with_len 0 count)
touched-are P count first xs zs ys none are same sorted is =
    rising-filter P count 0 ys (subst (λ l. AllPairs (λ a b. a < b) l) (sym is) (AllPairs-from_increasing (dedup eqb zs) (IsStrictlyIncreasing-dedup zs sorted))) (λ n. (forth n, back n))
  where
    forth : (n : ℕ) → Contains ys n → (0 < n + 1) × ((n < 0 + count) × (P n ≡ true))
    forth n c = elim ((are n).0 (Contains-permutation zs xs n (IsPermutation-sym xs zs same) (Contains-from_dedup eqb zs n (subst (λ l. Contains l n) is c)))) [
      | inl old ↦ let e = subst (λ l. Contains l n) none old in let w = e.1 in absurd (omega (arith, w))
      | inr h ↦ let w = h.0 in (omega arith, (omega (arith, w), h.1))
    ]

    back : (n : ℕ) → (0 < n + 1) × ((n < 0 + count) × (P n ≡ true)) → Contains ys n
    back n h = let w = h.1.0 in subst (λ l. Contains l n) (sym is) (Contains-dedup_nat zs n (Contains-permutation xs zs n same ((are n).1 (inr (omega (arith, w), h.1.1)))))
