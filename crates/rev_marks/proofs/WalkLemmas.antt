-- What is taken one after the other is the cone.
use Rattle.std.proofs.Common.{◌≡◌, ℕ, ◌<◌, Bool, true, false, cond, ◌||◌, ◌&&◌, List, [], ◌∷◌, Option, Some, None, inl, inr, refl, sym, ap, ap₂, subst, ◌∙◌, arith, true≢false}
use Rattle.std.specs.Prelude.{filter, nat_eq, nat_lt}
use Rattle.std.specs.List.{AllByRecursion}
use Rattle.std.proofs.lemmas.Bool.{eq-eqb, eqb-true, le-ltb, lt-ltb, ltb-true, ne_eqb}
use Rattle.rev_causal.specs.Chosen.{IsRising, is_among}
use Rattle.rev_causal.specs.Order.{Has, any_conflict, cone}
use Rattle.rev_causal.proofs.Runs.{either}
use Rattle.rev_marks.specs.Masks.{is_that}
use Rattle.rev_marks.specs.Walk.{cone_among, taken, walk}

all-at : (P : ℕ → Type 0) (xs : List ℕ) (a : ℕ) → AllByRecursion P xs → Has xs a → P a
all-at P [] a all h = absurd h
all-at P (x ∷ xs) a all (inl e) = subst P e all.0
all-at P (x ∷ xs) a all (inr k) = all-at P xs a all.1 k

all-more : (n k : ℕ) (xs : List ℕ) → n < k → AllByRecursion (λ y. k < y) xs → AllByRecursion (λ y. n < y) xs
all-more n k [] less all = tt
all-more n k (x ∷ xs) less all = (let above : k < x = all.0 in omega (arith, less, above), all-more n k xs less all.1)

filter-above : (n : ℕ) (xs : List ℕ) → AllByRecursion (λ y. n < y) xs → filter (λ k. nat_lt n k) xs ≡ xs
filter-above n [] all = refl
filter-above n (x ∷ xs) all =
    ap (λ b. cond b (x ∷ filter (λ k. nat_lt n k) xs) (filter (λ k. nat_lt n k) xs)) (lt-ltb n x all.0) ∙ ap (λ ys. x ∷ ys) (filter-above n xs all.1)

or-move : (a b c : Bool) → (a || (b || c)) ≡ ((b || a) || c)
or-move true true c = refl
or-move true false c = refl
or-move false true c = refl
or-move false false c = refl

or-move' : (a b : Bool) → (a || (b || false)) ≡ (b || a)
or-move' true true = refl
or-move' true false = refl
or-move' false true = refl
or-move' false false = refl

or-false : (a : Bool) → (a || false) ≡ a
or-false true = refl
or-false false = refl

module _ (clash : ℕ → ℕ → Bool) (is : ℕ → Bool) (none : (k : ℕ) → is k ≡ false → (held : List ℕ) → any_conflict clash held k ≡ false) where
  -- of what conflicts with nothing there is no cone
  cone-none : (ks : List ℕ) → cone clash [] ks ≡ []
  cone-none [] = refl
  cone-none (k ∷ ks) = cone-none ks

  both : (k : ℕ) (held : List ℕ) → (is k && any_conflict clash held k) ≡ any_conflict clash held k
  both k held = elim (either (is k)) [
    | inl t ↦ ap (λ b. b && any_conflict clash held k) t
    | inr f ↦ ap (λ b. b && any_conflict clash held k) f ∙ sym (none k f held)
  ]

  taken-by : (asked : Option ℕ) (held : List ℕ) (k : ℕ) (b : Bool) → is_that asked k ≡ false → any_conflict clash held k ≡ b → taken clash is asked held k ≡ cond b (k ∷ held) held
  taken-by asked held k b other e =
      ap (λ x. cond (is k && (x || any_conflict clash held k)) (k ∷ held) held) other ∙ ap (λ x. cond x (k ∷ held) held) (both k held ∙ e)

  -- behind the number itself
  behind : (asked : Option ℕ) (held ks : List ℕ) (s : ℕ) → AllByRecursion (λ k. is_that asked k ≡ false) ks
      → is_among (walk clash is asked held ks) s ≡ (is_among (cone clash held ks) s || is_among held s)
  behind asked held [] s others = refl
  behind asked held (k ∷ ks) s others = elim (either (any_conflict clash held k)) [
    | inl t ↦
        ap (λ (h : List ℕ). is_among (walk clash is asked h ks) s) (taken-by asked held k true others.0 t)
        ∙ behind asked (k ∷ held) ks s others.1
        ∙ or-move (is_among (cone clash (k ∷ held) ks) s) (nat_eq s k) (is_among held s)
        ∙ ap (λ b. is_among (cond b (k ∷ cone clash (k ∷ held) ks) (cone clash held ks)) s || is_among held s) (sym t)
    | inr f ↦
        ap (λ (h : List ℕ). is_among (walk clash is asked h ks) s) (taken-by asked held k false others.0 f)
        ∙ behind asked held ks s others.1
        ∙ ap (λ b. is_among (cond b (k ∷ cone clash (k ∷ held) ks) (cone clash held ks)) s || is_among held s) (sym f)
  ]

  -- with nothing taken, nothing is
  nothing : (asked : Option ℕ) (ks : List ℕ) (s : ℕ) → AllByRecursion (λ k. is_that asked k ≡ false) ks → is_among (walk clash is asked [] ks) s ≡ false
  nothing asked ks s others = behind asked [] ks s others ∙ ap (λ (h : List ℕ). is_among h s || false) (cone-none ks)

  pub walk-none : (ks : List ℕ) (s : ℕ) → is_among (walk clash is None [] ks) s ≡ false
  walk-none ks s = nothing None ks s (all ks)
    where
      all : (xs : List ℕ) → AllByRecursion (λ k. is_that None k ≡ false) xs
      all [] = tt
      all (x ∷ xs) = (refl, all xs)

  others-above : (n : ℕ) (ks : List ℕ) → AllByRecursion (λ y. n < y) ks → AllByRecursion (λ k. is_that (Some n) k ≡ false) ks
  others-above n [] all = tt
  others-above n (k ∷ ks) all = (ne_eqb n k (λ same. let above : n < k = all.0 in omega (arith, above, same)), others-above n ks all.1)

  absent : (n : ℕ) (ks : List ℕ) → AllByRecursion (λ y. n < y) ks → Has ks n → ⊥
  absent n ks all h = let less : n < n = all-at (λ y. n < y) ks n all h in omega (arith, less)

  pub walk-is : (kept : List ℕ) (n s : ℕ) → IsRising kept → (is n ≡ true → Has kept n) → is_among (walk clash is (Some n) [] kept) s ≡ is_among (cone_among clash is kept n) s
  walk-is [] n s rising has = elim (either (is n)) [
    | inl t ↦ absurd (has t)
    | inr f ↦ ap (λ b. is_among (cond b (n ∷ cone clash (n ∷ []) []) []) s) (sym f)
  ]
  walk-is (k ∷ ks) n s rising has = elim (either (nat_eq n k)) [
    | inl e ↦ at e (eqb-true n k e)
    | inr e ↦ apart e (λ has-later. walk-is ks n s rising.1 has-later)
  ]
    where
      -- here it is
      at : nat_eq n k ≡ true → n ≡ k → is_among (walk clash is (Some n) [] (k ∷ ks)) s ≡ is_among (cone_among clash is (k ∷ ks) n) s
      at e same =
          let all : AllByRecursion (λ y. n < y) ks = subst (λ m. AllByRecursion (λ y. m < y) ks) (sym same) rising.0 in
          let below : filter (λ j. nat_lt n j) (k ∷ ks) ≡ ks =
          ap (λ b. cond b (k ∷ filter (λ j. nat_lt n j) ks) (filter (λ j. nat_lt n j) ks)) (le-ltb n k (omega (arith, same))) ∙ filter-above n ks all in
          elim (either (is n)) [
            | inl t ↦
                ap₂ (λ b x. is_among (walk clash is (Some n) (cond (b && (x || false)) (k ∷ []) []) ks) s) (sym (ap is same) ∙ t) e
                ∙ ap (λ m. is_among (walk clash is (Some n) (m ∷ []) ks) s) (sym same)
                ∙ behind (Some n) (n ∷ []) ks s (others-above n ks all)
                ∙ or-move' (is_among (cone clash (n ∷ []) ks) s) (nat_eq s n)
                ∙ ap (λ (ys : List ℕ). is_among (n ∷ cone clash (n ∷ []) ys) s) (sym below)
                ∙ ap (λ b. is_among (cond b (n ∷ cone clash (n ∷ []) (filter (λ j. nat_lt n j) (k ∷ ks))) []) s) (sym t)
            | inr f ↦
                ap (λ b. is_among (walk clash is (Some n) (cond (b && (nat_eq n k || false)) (k ∷ []) []) ks) s) (sym (ap is same) ∙ f)
                ∙ nothing (Some n) ks s (others-above n ks all)
                ∙ ap (λ b. is_among (cond b (n ∷ cone clash (n ∷ []) (filter (λ j. nat_lt n j) (k ∷ ks))) []) s) (sym f)
          ]

      apart : nat_eq n k ≡ false → ((is n ≡ true → Has ks n) → is_among (walk clash is (Some n) [] ks) s ≡ is_among (cone_among clash is ks n) s)
          → is_among (walk clash is (Some n) [] (k ∷ ks)) s ≡ is_among (cone_among clash is (k ∷ ks) n) s
      apart e later = ap (λ (h : List ℕ). is_among (walk clash is (Some n) h ks) s) (taken-by (Some n) [] k false e refl) ∙ elim (either (nat_lt n k)) [
        | inl less ↦
            let below : n < k = ltb-true n k less in
            let all : AllByRecursion (λ y. n < y) ks = all-more n k ks below rising.0 in
            nothing (Some n) ks s (others-above n ks all) ∙ elim (either (is n)) [
              | inl t ↦ absurd (absent n (k ∷ ks) (below, all) (has t))
              | inr f ↦ ap (λ b. is_among (cond b (n ∷ cone clash (n ∷ []) (filter (λ j. nat_lt n j) (k ∷ ks))) []) s) (sym f)
            ]
        | inr more ↦
            later (λ t. elim (has t) [
              | inl same ↦ absurd (true≢false (sym (eq-eqb n k (sym same)) ∙ e))
              | inr there ↦ there
            ])
            ∙ ap (λ b. is_among (cond (is n) (n ∷ cone clash (n ∷ []) (cond b (k ∷ filter (λ j. nat_lt n j) ks) (filter (λ j. nat_lt n j) ks))) []) s) (sym more)
      ]
