-- Beside the event of a number stands a step exactly where it is kept.
use Rattle.std.proofs.Common.{◌≡◌, ℕ, ◌<◌, ◌≤◌, Bool, true, false, not, cond, ◌&&◌, ◌||◌, List, [], ◌∷◌, ◌++◌, filter, Option, None, Some, is_some, IsSome, option_map, map, length, set, refl, sym, ap, ap₂, subst, ◌∙◌, inl, inr, true≢false, nat_eq, eqb-true, eq-eqb, ltb-false, arith, zero, suc}
use Rattle.std.specs.Prelude.{nat_lt}
use Rattle.std.specs.List.{AllByRecursion}
use Rattle.rev_causal.specs.Chosen.{last_of, is_among, without, placed}
use Rattle.rev_causal.specs.History.{event_at, numbered_by}
use Rattle.rev_causal.proofs.Beside.{IsPlace, beside_set, beside_push, all_beside, last_of_beside}
use Rattle.rev_causal.proofs.Chosen.{AllAccepted, some_is, accepted_among, event_at-new, nat_eq_comm, without-not_among}
use Rattle.rev_causal.proofs.Runs.{either}
use Rattle.rev_events.specs.declared.event.Event.{Event}
use Rattle.rev_footprint.specs.Value as footprints
use Rattle.rev_footprint.specs.Value.{FootprintValue}
use Rattle.rev_history.specs.Sound.{StandBesideKept}
use Rattle.rev_history.specs.Steps.{StepValue, Beside, step_at, footprint_in, footprint_beside, HasFootprints, print_of, prints_of}

-- numbers among others

pub or_left : (a b : Bool) → a ≡ true → (a || b) ≡ true
or_left a b h = ap (λ x. x || b) h

pub or_right : (a b : Bool) → b ≡ true → (a || b) ≡ true
or_right true b h = refl
or_right false b h = h

among_append : (xs ys : List ℕ) (k : ℕ) → is_among (xs ++ ys) k ≡ (is_among xs k || is_among ys k)
among_append [] ys k = refl
among_append (x ∷ xs) ys k = by (nat_eq k x) (among_append xs ys k)
  where
    by : (b : Bool) → is_among (xs ++ ys) k ≡ (is_among xs k || is_among ys k) → (b || is_among (xs ++ ys) k) ≡ ((b || is_among xs k) || is_among ys k)
    by true rest = refl
    by false rest = rest

among_filter : (p : ℕ → Bool) (xs : List ℕ) (k : ℕ) → is_among (filter p xs) k ≡ (is_among xs k && p k)
among_filter p [] k = refl
among_filter p (x ∷ xs) k = by (p x) (nat_eq k x) refl refl (among_filter p xs k)
  where
    and_false : (b : Bool) → (b && false) ≡ false
    and_false true = refl
    and_false false = refl

    by : (b d : Bool) → p x ≡ b → nat_eq k x ≡ d → is_among (filter p xs) k ≡ (is_among xs k && p k) → is_among (cond b (x ∷ filter p xs) (filter p xs)) k ≡ ((d || is_among xs k) && p k)
    by true true h e rest = ap (λ z. z || is_among (filter p xs) k) e ∙ sym (ap p (eqb-true k x e) ∙ h)
    by true false h e rest = ap (λ z. z || is_among (filter p xs) k) e ∙ rest
    by false true h e rest =
        rest ∙ ap (λ z. is_among xs k && z) (ap p (eqb-true k x e) ∙ h) ∙ and_false (is_among xs k) ∙ sym (ap p (eqb-true k x e) ∙ h)
    by false false h e rest = rest

and_true : (b : Bool) → (b && true) ≡ b
and_true true = refl
and_true false = refl

among_without : (n k : ℕ) (ks : List ℕ) → nat_eq n k ≡ false → is_among (without n ks) k ≡ is_among ks k
among_without n k ks other =
    among_filter (λ y. not (nat_eq y n)) ks k ∙ ap (λ b. is_among ks k && not b) (nat_eq_comm k n ∙ other) ∙ and_true (is_among ks k)

among_placed : (n k : ℕ) (ks : List ℕ) → is_among (placed n ks) k ≡ (nat_eq k n || is_among ks k)
among_placed n k ks =
    among_append (filter (λ y. nat_lt y n) ks) (n ∷ filter (λ y. nat_lt n y) ks) k
    ∙ ap₂ (λ a b. a || (nat_eq k n || b)) (among_filter (λ y. nat_lt y n) ks k) (among_filter (λ y. nat_lt n y) ks k)
    ∙ by (nat_lt k n) (nat_eq k n) (nat_lt n k) (is_among ks k) refl refl refl
  where
    by : (less same more a : Bool) → nat_lt k n ≡ less → nat_eq k n ≡ same → nat_lt n k ≡ more → ((a && less) || (same || (a && more))) ≡ (same || a)
    by less true more true l s m = or_right (true && less) true refl
    by less true more false l s m = refl
    by less false more false l s m = refl
    by true false more true l s m = refl
    by false false true true l s m = refl
    by false false false true l s m = absurd (neither l s m)
      where
        neither : nat_lt k n ≡ false → nat_eq k n ≡ false → nat_lt n k ≡ false → ⊥
        neither l s m =
            let up : n ≤ k = ltb-false k n l in
            let down : k ≤ n = ltb-false n k m in
            true≢false (sym (eq-eqb k n (omega arith)) ∙ s)

among_push : (n k : ℕ) (ks : List ℕ) → is_among (ks ++ n ∷ []) k ≡ (is_among ks k || nat_eq k n)
among_push n k ks = among_append ks (n ∷ []) k ∙ ap (λ b. is_among ks k || b) (or_false (nat_eq k n))
  where
    or_false : (b : Bool) → (b || false) ≡ b
    or_false true = refl
    or_false false = refl

pub all_among : (P : ℕ → Type 0) (ks : List ℕ) (n : ℕ) → AllByRecursion P ks → is_among ks n ≡ true → P n
all_among P [] n all h = absurd (true≢false (sym h))
all_among P (k ∷ ks) n all h = elim (either (nat_eq n k)) [
  | inl t ↦ subst P (sym (eqb-true n k t)) all.0
  | inr f ↦ all_among P ks n all.1 (sym (ap (λ b. b || is_among ks n) f) ∙ h)
]

each_among : (P : ℕ → Type 0) (ks : List ℕ) → ((k : ℕ) → is_among ks k ≡ true → P k) → AllByRecursion P ks
each_among P [] f = tt
each_among P (k ∷ ks) f =
    (f k (or_left (nat_eq k k) (is_among ks k) (eq-eqb k k refl)), each_among P ks (λ j h. f j (or_right (nat_eq j k) (is_among ks j) h)))

-- what stands beside other numbers

beside_apart : {E A : Type 0} (n k : ℕ) (es : List (ℕ × E)) (xs : List A) (i : ℕ) (y : A) → IsPlace n es i → nat_eq n k ≡ false → event_at k (numbered_by es (set xs i y)) ≡ event_at k (numbered_by es xs)
beside_apart n k [] xs i y at other = absurd at
beside_apart n k (e ∷ es) [] i y at other = refl
beside_apart n k (e ∷ es) (x ∷ xs) zero y at other =
    let not_it : nat_eq e.0 k ≡ false = ap (λ j. nat_eq j k) (eqb-true e.0 n at) ∙ other in
    ap (λ b. cond b (Some y) (event_at k (numbered_by es xs))) not_it ∙ sym (ap (λ b. cond b (Some x) (event_at k (numbered_by es xs))) not_it)
beside_apart n k (e ∷ es) (x ∷ xs) (suc i) y at other = ap (cond (nat_eq e.0 k) (Some x)) (beside_apart n k es xs i y at.1 other)

event_at-apart : {A : Type 0} (n k : ℕ) (x : A) (xs : List (ℕ × A)) → nat_eq n k ≡ false → event_at k (xs ++ (n, x) ∷ []) ≡ event_at k xs
event_at-apart n k x [] other = ap (λ b. cond b (Some x) None) other
event_at-apart n k x (y ∷ ys) other = ap (cond (nat_eq y.0 k) (Some y.1)) (event_at-apart n k x ys other)

pub mapped_beside : {E A B : Type 0} (f : A → B) (n : ℕ) (es : List (ℕ × E)) (xs : List A) → event_at n (numbered_by es (map f xs)) ≡ option_map f (event_at n (numbered_by es xs))
mapped_beside f n [] xs = refl
mapped_beside f n (e ∷ es) [] = refl
mapped_beside f n (e ∷ es) (x ∷ xs) = by (nat_eq e.0 n) (mapped_beside f n es xs)
  where
    by : (b : Bool) → event_at n (numbered_by es (map f xs)) ≡ option_map f (event_at n (numbered_by es xs)) → cond b (Some (f x)) (event_at n (numbered_by es (map f xs))) ≡ option_map f (cond b (Some x) (event_at n (numbered_by es xs)))
    by true rest = refl
    by false rest = rest

-- a step came or went

module _ (es : List (ℕ × Event)) (steps : List Beside) (ks : List ℕ) (h : StandBesideKept es steps ks) where
  pub stand_undone : (n i : ℕ) → IsPlace n es i → i < length steps → StandBesideKept es (set steps i None) (without n ks)
  stand_undone n i place lt k s at = elim (either (nat_eq n k)) [
    | inl t ↦
        let one : Some None ≡ Some s = sym (beside_set n es steps i None place lt) ∙ ap (λ j. step_at j es (set steps i None)) (eqb-true n k t) ∙ at in
        let none : s ≡ None = cc in
        ap is_some none ∙ sym (ap (is_among (without n ks)) (sym (eqb-true n k t)) ∙ without-not_among n ks)
    | inr f ↦ h k s (sym (beside_apart n k es steps i None place f) ∙ at) ∙ sym (among_without n k ks f)
  ]

  pub stand_redone : (n i : ℕ) (step : StepValue) → IsPlace n es i → i < length steps → StandBesideKept es (set steps i (Some step)) (placed n ks)
  stand_redone n i step place lt k s at = elim (either (nat_eq n k)) [
    | inl t ↦
        let one : Some (Some step) ≡ Some s = sym (beside_set n es steps i (Some step) place lt) ∙ ap (λ j. step_at j es (set steps i (Some step))) (eqb-true n k t) ∙ at in
        let some : s ≡ Some step = cc in
        ap is_some some ∙ sym (among_placed n k ks ∙ ap (λ b. b || is_among ks k) (nat_eq_comm k n ∙ t))
    | inr f ↦
        h k s (sym (beside_apart n k es steps i (Some step) place f) ∙ at)
        ∙ sym (among_placed n k ks ∙ ap (λ b. b || is_among ks k) (nat_eq_comm k n ∙ f))
  ]

  pub stand_accepted : (n : ℕ) (e : Event) (step : StepValue) → length steps ≡ length es → last_of es < n → StandBesideKept (es ++ (n, e) ∷ []) (steps ++ Some step ∷ []) (ks ++ n ∷ [])
  stand_accepted n e step same lt k s at =
      let pushed : event_at k (numbered_by es steps ++ (n, Some step) ∷ []) ≡ Some s = ap (event_at k) (sym (beside_push es steps (n, e) (Some step) same)) ∙ at in
      elim (either (nat_eq n k)) [
        | inl t ↦
            let here : event_at k (numbered_by es steps ++ (n, Some step) ∷ []) ≡ Some (Some step) =
            ap (λ j. event_at j (numbered_by es steps ++ (n, Some step) ∷ [])) (sym (eqb-true n k t)) ∙ event_at-new n (Some step) (numbered_by es steps) (last_of_beside es steps n lt) in
            let one : Some (Some step) ≡ Some s = sym here ∙ pushed in
            let some : s ≡ Some step = cc in
            ap is_some some ∙ sym (among_push n k ks ∙ or_right (is_among ks k) (nat_eq k n) (nat_eq_comm k n ∙ t))
        | inr f ↦
            h k s (sym (event_at-apart n k (Some step) (numbered_by es steps) f) ∙ pushed)
            ∙ sym (among_push n k ks ∙ ap (λ b. is_among ks k || b) (nat_eq_comm k n ∙ f) ∙ or_none (is_among ks k))
      ]
    where
      or_none : (b : Bool) → (b || false) ≡ b
      or_none true = refl
      or_none false = refl

  -- beside a kept number stands one
  pub step_there : (n : ℕ) → length steps ≡ length es → AllAccepted es ks → is_among ks n ≡ true → (s : StepValue) × (step_at n es steps ≡ Some (Some s))
  step_there n same all among =
      let found = accepted_among (numbered_by es steps) ks n (all_beside es steps ks same all) among in
      by found.0 found.1
    where
      by : (o : Beside) → step_at n es steps ≡ Some o → (s : StepValue) × (step_at n es steps ≡ Some (Some s))
      by None at = absurd (true≢false (sym (h n None at ∙ among)))
      by (Some s) at = (s, at)

  -- so it has a footprint
  pub has_footprints : length steps ≡ length es → AllAccepted es ks → HasFootprints es steps ks
  has_footprints same all = each_among (λ k. IsSome (footprint_beside k es steps)) ks (λ k among. let found = step_there k same all among in ap (λ o. is_some (footprint_in o)) found.1)

-- what the theory of undo sees beside a number is made of the footprint beside it
pub print_beside : (n : ℕ) (es : List (ℕ × Event)) (steps : List Beside) (f : FootprintValue) → footprint_beside n es steps ≡ Some f → event_at n (prints_of es steps) ≡ Some (footprints.print_of f)
print_beside n es steps f at = mapped_beside print_of n es steps ∙ by (step_at n es steps) at
  where
    by : (o : Option Beside) → footprint_in o ≡ Some f → option_map print_of o ≡ Some (footprints.print_of f)
    by None h = cc
    by (Some None) h = cc
    by (Some (Some s)) h = ap (option_map footprints.print_of) h

-- and there is one beside each of some numbers
pub prints_accepted : (es : List (ℕ × Event)) (steps : List Beside) (ks : List ℕ) → HasFootprints es steps ks → AllAccepted (prints_of es steps) ks
prints_accepted es steps [] all = tt
prints_accepted es steps (k ∷ ks) all =
    let f = some_is (footprint_beside k es steps) all.0 in
    (ap is_some (print_beside k es steps f.0 f.1), prints_accepted es steps ks all.1)
