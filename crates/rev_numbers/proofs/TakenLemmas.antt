-- Numbers out of which others are taken.
use Rattle.std.proofs.Common.{◌≡◌, ℕ, zero, suc, ◌-◌, ◌<◌, ◌≤◌, Bool, true, false, not, ◌&&◌, ◌||◌, cond, List, [], ◌∷◌, filter, length, drop, get_or, None, Some, refl, sym, ap, ap₂, subst, ◌∙◌, inl, inr, true≢false, eq-eqb, eqb-true, ne_eqb, slice_get, arith}
use Rattle.std.specs.Prelude.{nat_eq}
use Rattle.std.specs.List.{AllByRecursion}
use Rattle.std.specs.List.Retain.{RetainsInTurn}
use Rattle.rev_causal.specs.Chosen.{IsRising, is_among, without}
use Rattle.rev_causal.proofs.Chosen.{without-not_among}
use Rattle.rev_causal.proofs.Runs.{either}
use Rattle.rev_numbers.specs.Taken.{without_all, IsThinned}

-- where no call changes the closure or the element, what is kept is what passes the test
pub filter_from_retain : {X F : Type 0} (R : F → X → Bool → F → X → Type 0) (test : X → Bool) (f : F)
    → ((x : X) (b : Bool) (f' : F) (y : X) → R f x b f' y → (b ≡ test x) × (f' ≡ f) × (y ≡ x))
    → (xs ys : List X) → RetainsInTurn R f xs ys → ys ≡ filter test xs
filter_from_retain R test f says [] ys h = h
filter_from_retain R test f says (x ∷ xs) ys h =
    let said = says x h.0 h.1 h.2 h.3 in
    let later = subst (λ g. RetainsInTurn R g xs h.4) said.1 h.5 in
    let rest = filter_from_retain R test f says xs h.4 later in
    h.6 ∙ (λ i. cond (said.0 i) (said.2 i ∷ rest i) (rest i))

-- numbers without some

pub without_more : (k : ℕ) (ms ks : List ℕ) → without k (without_all ms ks) ≡ without_all (k ∷ ms) ks
without_more k ms [] = refl
without_more k ms (x ∷ xs) = by (is_among ms x) (nat_eq x k) refl (without_more k ms xs)
  where
    by : (b d : Bool) → nat_eq x k ≡ d → without k (without_all ms xs) ≡ without_all (k ∷ ms) xs
        → without k (cond (not b) (x ∷ without_all ms xs) (without_all ms xs)) ≡ cond (not (d || b)) (x ∷ without_all (k ∷ ms) xs) (without_all (k ∷ ms) xs)
    by true true same rest = rest
    by true false same rest = rest
    by false true same rest = ap (λ z. cond (not z) (x ∷ without k (without_all ms xs)) (without k (without_all ms xs))) same ∙ rest
    by false false same rest = ap (λ z. cond (not z) (x ∷ without k (without_all ms xs)) (without k (without_all ms xs))) same ∙ ap (λ ys. x ∷ ys) rest

pub without_none : (ks : List ℕ) → without_all [] ks ≡ ks
without_none [] = refl
without_none (k ∷ ks) = ap (λ xs. k ∷ xs) (without_none ks)

pub without_nobody : (ms ks : List ℕ) → slice_get ms 0 ≡ None → without_all ms ks ≡ ks
without_nobody [] ks none = without_none ks
without_nobody (m ∷ ms) ks none = cc

-- a number below all
below_apart : (k n : ℕ) (ks : List ℕ) → k < n → AllByRecursion (λ y. n < y) ks → is_among ks k ≡ false
below_apart k n [] less above = refl
below_apart k n (y ∷ ys) less above =
    let lt : n < y = above.0 in
    ap (λ b. b || is_among ys k) (ne_eqb k y (λ e. omega arith)) ∙ below_apart k n ys less above.1

pub first_apart : (k first : ℕ) (ks : List ℕ) → k < first → IsRising ks → slice_get ks 0 ≡ Some first → is_among ks k ≡ false
first_apart k first [] less rising is = refl
first_apart k first (y ∷ ys) less rising is =
    let same : y ≡ first = cc in
    let lt : k < y = subst (λ z. k < z) (sym same) less in
    ap (λ b. b || is_among ys k) (ne_eqb k y (λ e. omega arith)) ∙ below_apart k y ys lt rising.0

filter_all : (ks : List ℕ) → ks ≡ filter (λ k. true) ks
filter_all [] = refl
filter_all (k ∷ ks) = ap (λ xs. k ∷ xs) (filter_all ks)

filter_twice : (p q : ℕ → Bool) (ks : List ℕ) → filter q (filter p ks) ≡ filter (λ k. p k && q k) ks
filter_twice p q [] = refl
filter_twice p q (k ∷ ks) = by (p k) (filter_twice p q ks)
  where
    by : (b : Bool) → filter q (filter p ks) ≡ filter (λ x. p x && q x) ks
        → filter q (cond b (k ∷ filter p ks) (filter p ks)) ≡ cond (b && q k) (k ∷ filter (λ x. p x && q x) ks) (filter (λ x. p x && q x) ks)
    by true rest = ap (λ xs. cond (q k) (k ∷ xs) xs) rest
    by false rest = rest

or_false : (a b : Bool) → (a || b) ≡ false → (a ≡ false) × (b ≡ false)
or_false true b h = absurd (true≢false h)
or_false false b h = (refl, h)

or_true : (a b : Bool) → b ≡ true → (a || b) ≡ true
or_true true b h = refl
or_true false b h = h

-- what is not there stays away
filter_absent : (p : ℕ → Bool) (n : ℕ) (ks : List ℕ) → is_among ks n ≡ false → is_among (filter p ks) n ≡ false
filter_absent p n [] h = refl
filter_absent p n (k ∷ ks) h =
    let apart = or_false (nat_eq n k) (is_among ks n) h in
    let rest = filter_absent p n ks apart.1 in
    elim (p k) as (λ b. is_among (cond b (k ∷ filter p ks) (filter p ks)) n ≡ false) [
      | true ↦ ap (λ b. b || is_among (filter p ks) n) apart.0 ∙ rest
      | false ↦ rest
    ]

-- what fails goes
filter_fails : (p : ℕ → Bool) (n : ℕ) → p n ≡ false → (ks : List ℕ) → is_among (filter p ks) n ≡ false
filter_fails p n fails [] = refl
filter_fails p n fails (k ∷ ks) = by (p k) refl (filter_fails p n fails ks)
  where
    by : (b : Bool) → p k ≡ b → is_among (filter p ks) n ≡ false → is_among (cond b (k ∷ filter p ks) (filter p ks)) n ≡ false
    by true passes rest = elim (either (nat_eq n k)) [
      | inl t ↦ absurd (true≢false (sym passes ∙ sym (ap p (eqb-true n k t)) ∙ fails))
      | inr f ↦ ap (λ b. b || is_among (filter p ks) n) f ∙ rest
    ]
    by false passes rest = rest

-- what passes stays
pub filter_stays : (p : ℕ → Bool) (n : ℕ) → p n ≡ true → (ks : List ℕ) → is_among ks n ≡ true → is_among (filter p ks) n ≡ true
filter_stays p n passes [] h = h
filter_stays p n passes (k ∷ ks) h = elim (either (nat_eq n k)) [
  | inl t ↦
      let kept : p k ≡ true = sym (ap p (eqb-true n k t)) ∙ passes in
      ap (λ b. is_among (cond b (k ∷ filter p ks) (filter p ks)) n) kept ∙ ap (λ b. b || is_among (filter p ks) n) t
  | inr f ↦
      let rest : is_among (filter p ks) n ≡ true = filter_stays p n passes ks (sym (ap (λ b. b || is_among ks n) f) ∙ h) in
      elim (p k) as (λ b. is_among (cond b (k ∷ filter p ks) (filter p ks)) n ≡ true) [
        | true ↦ or_true (nat_eq n k) (is_among (filter p ks) n) rest
        | false ↦ rest
      ]
]

-- tests that agree on what is there
pub filter_agree : (p q : ℕ → Bool) (ks : List ℕ) → ((k : ℕ) → is_among ks k ≡ true → p k ≡ q k) → filter p ks ≡ filter q ks
filter_agree p q [] same = refl
filter_agree p q (k ∷ ks) same = λ i.
    cond (same k (ap (λ b. b || is_among ks k) (eq-eqb k k refl)) i)
    (k ∷ filter_agree p q ks (λ x h. same x (or_true (nat_eq x k) (is_among ks x) h)) i)
    (filter_agree p q ks (λ x h. same x (or_true (nat_eq x k) (is_among ks x) h)) i)

-- lists that are thinned

pub thinned_not : (members ks : List ℕ) → IsThinned members ks ks
thinned_not members ks = record { keeps = λ k. true; is = filter_all ks; others = λ k h. refl }

pub thinned_then : (members a b d : List ℕ) → IsThinned members a b → IsThinned members b d → IsThinned members a d
thinned_then members a b d f g = record {
  keeps = λ k. f.keeps k && g.keeps k;
  is = g.is ∙ ap (filter g.keeps) f.is ∙ filter_twice f.keeps g.keeps a;
  others = λ k h. ap₂ (λ x y. x && y) (f.others k h) (g.others k h);
}

-- a member was taken out
pub thinned_one : (members old new : List ℕ) (n : ℕ) → is_among members n ≡ true → new ≡ without n old → IsThinned members old new
thinned_one members old new n among is = record {
  keeps = λ k. not (nat_eq k n);
  is = is;
  others = λ k apart. ap not (other k apart);
}
  where
    other : (k : ℕ) → is_among members k ≡ false → nat_eq k n ≡ false
    other k apart = elim (either (nat_eq k n)) [
      | inl t ↦ absurd (true≢false (sym among ∙ sym (ap (is_among members) (eqb-true k n t)) ∙ apart))
      | inr f ↦ f
    ]

pub gone_one : (old new : List ℕ) (n : ℕ) → new ≡ without n old → is_among new n ≡ false
gone_one old new n is = ap (λ ks. is_among ks n) is ∙ without-not_among n old

-- all members were
pub thinned_all : (members old new : List ℕ) → new ≡ without_all members old → IsThinned members old new
thinned_all members old new is = record { keeps = λ k. not (is_among members k); is = is; others = λ k apart. ap not apart }

pub gone_all : (members old new : List ℕ) (n : ℕ) → is_among members n ≡ true → new ≡ without_all members old → is_among new n ≡ false
gone_all members old new n among is = ap (λ ks. is_among ks n) is ∙ filter_fails (λ k. not (is_among members k)) n (ap not among) old

-- what is gone stays away
pub gone_still : (members old new : List ℕ) (n : ℕ) → IsThinned members old new → is_among old n ≡ false → is_among new n ≡ false
gone_still members old new n f gone = ap (λ ks. is_among ks n) f.is ∙ filter_absent f.keeps n old gone

-- the members from a place on

dropped-next : (xs : List ℕ) (i d : ℕ) → i < length xs → drop i xs ≡ get_or xs i d ∷ drop (suc i) xs
dropped-next [] i d lt = absurd (omega arith)
dropped-next (x ∷ xs) zero d lt = refl
dropped-next (x ∷ xs) (suc i) d lt = dropped-next xs i d (omega arith)

pub dropped-before : (xs : List ℕ) (left : ℕ) → 0 < left → left ≤ length xs → drop (left - 1) xs ≡ get_or xs (left - 1) 0 ∷ drop left xs
dropped-before xs zero some within = absurd (omega arith)
dropped-before xs (suc i) some within =
    let one : suc i - 1 ≡ i = omega arith in
    subst (λ j. drop j xs ≡ get_or xs j 0 ∷ drop (suc i) xs) (sym one) (dropped-next xs i 0 (omega arith))

pub dropped-all : (xs : List ℕ) → drop (length xs) xs ≡ []
dropped-all [] = refl
dropped-all (x ∷ xs) = dropped-all xs
