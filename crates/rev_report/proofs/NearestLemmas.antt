-- The kept events that depend on one, found one after the other.
use Rattle.std.proofs.Common.{◌≡◌, ℕ, ◌<◌, Bool, true, false, ◌&&◌, cond, List, [], ◌∷◌, filter, map, Option, None, Some, refl, sym, ap, ap₂, subst, ◌∙◌, inl, inr, eqb-true, eq-eqb, ltb-true, lt-ltb, le-ltb, arith}
use Rattle.std.specs.Prelude.{nat_eq, nat_lt}
use Rattle.std.specs.List.{AllByRecursion}
use Rattle.rev_causal.specs.Chosen.{IsRising}
use Rattle.rev_causal.specs.Entries.{entries}
use Rattle.rev_causal.specs.History as causal
use Rattle.rev_causal.proofs.ByNumber as by_number
use Rattle.rev_causal.proofs.Chosen.{AllAccepted, some_is, chosen-rises}
use Rattle.rev_causal.proofs.Runs.{either}
use Rattle.rev_report.specs.Dependents.{conflicts}
use Rattle.rev_cells.specs.State.{State}
use Rattle.rev_events.specs.Machine.{after}
use Rattle.rev_manifest.specs.Manifest.{ManifestValue}
use Rattle.rev_footprint.specs.Value.{FootprintValue, print_of}
use Rattle.rev_footprint.specs.Footprint.{footprint}
use Rattle.rev_footprint.specs.Machine.{machine}
use Rattle.rev_history.specs.Timeline.{Timeline, IsHistory, Numbered, under, chosen, footprints_along, kept_events, kept_footprint, nearest_conflict}
use Rattle.rev_history.proofs.Footprints.{along_none}

-- the numbers above n that pass a test, and the first of them
abbrev pub above : ℕ → (ℕ → Bool) → List ℕ → List ℕ
above n test ks = filter (λ k. nat_lt n k && test k) ks

abbrev first_passing : ℕ → (ℕ → Bool) → List ℕ → Option ℕ
first_passing n test [] = None
first_passing n test (k ∷ ks) = cond (nat_lt n k) (cond (test k) (Some k) (first_passing n test ks)) (first_passing n test ks)

none_passes : (n : ℕ) (test : ℕ → Bool) (ks : List ℕ) → first_passing n test ks ≡ None → above n test ks ≡ []
none_passes n test [] h = refl
none_passes n test (k ∷ ks) h = by (nat_lt n k) (test k) h (none_passes n test ks)
  where
    by : (up passes : Bool) → cond up (cond passes (Some k) (first_passing n test ks)) (first_passing n test ks) ≡ None → (first_passing n test ks ≡ None → above n test ks ≡ []) → cond (up && passes) (k ∷ above n test ks) (above n test ks) ≡ []
    by true true e rest = cc
    by true false e rest = rest e
    by false passes e rest = rest e

-- from one number on and from another, where all are above both
above_both : (n j : ℕ) (test : ℕ → Bool) (ks : List ℕ) → AllByRecursion (λ k. n < k) ks → AllByRecursion (λ k. j < k) ks → above n test ks ≡ above j test ks
above_both n j test [] h i = refl
above_both n j test (k ∷ ks) h i =
    ap₂ (λ b xs. cond (b && test k) (k ∷ xs) xs) (lt-ltb n k h.0 ∙ sym (lt-ltb j k i.0)) (above_both n j test ks h.1 i.1)

more_above : (n j : ℕ) (ks : List ℕ) → n < j → AllByRecursion (λ k. j < k) ks → AllByRecursion (λ k. n < k) ks
more_above n j [] lt h = tt
more_above n j (k ∷ ks) lt h = (let up : j < k = h.0 in omega arith, more_above n j ks lt h.1)

-- what is found is above what all are above
found_from : (x n : ℕ) (test : ℕ → Bool) (ks : List ℕ) (j : ℕ) → AllByRecursion (λ k. x < k) ks → first_passing n test ks ≡ Some j → x < j
found_from x n test [] j h e = cc
found_from x n test (k ∷ ks) j h e = by (nat_lt n k) (test k) e (found_from x n test ks j h.1)
  where
    by : (up passes : Bool) → cond up (cond passes (Some k) (first_passing n test ks)) (first_passing n test ks) ≡ Some j → (first_passing n test ks ≡ Some j → x < j) → x < j
    by true true e rest = let same : k ≡ j = cc in subst (λ y. x < y) same h.0
    by true false e rest = rest e
    by false passes e rest = rest e

-- the first, and those above it
some_passes : (n : ℕ) (test : ℕ → Bool) (ks : List ℕ) (j : ℕ) → IsRising ks → first_passing n test ks ≡ Some j → above n test ks ≡ j ∷ above j test ks
some_passes n test [] j rising h = cc
some_passes n test (k ∷ ks) j rising h = by (nat_lt n k) (test k) refl h (some_passes n test ks j rising.1)
  where
    skipped : k < j → above j test (k ∷ ks) ≡ above j test ks
    skipped lt = ap (λ b. cond (b && test k) (k ∷ above j test ks) (above j test ks)) (le-ltb j k (omega arith))

    further : first_passing n test ks ≡ Some j → (first_passing n test ks ≡ Some j → above n test ks ≡ j ∷ above j test ks) → above n test ks ≡ j ∷ above j test (k ∷ ks)
    further e rest = rest e ∙ ap (λ xs. j ∷ xs) (sym (skipped (found_from k n test ks j rising.0 e)))

    by : (up passes : Bool) → nat_lt n k ≡ up → cond up (cond passes (Some k) (first_passing n test ks)) (first_passing n test ks) ≡ Some j → (first_passing n test ks ≡ Some j → above n test ks ≡ j ∷ above j test ks)
        → cond (up && passes) (k ∷ above n test ks) (above n test ks) ≡ j ∷ above j test (k ∷ ks)
    by true true u e rest =
        let same : k ≡ j = cc in
        let lt : n < k = ltb-true n k u in
        let behind : AllByRecursion (λ i. j < i) ks = subst (λ x. AllByRecursion (λ i. x < i) ks) same rising.0 in
        ap₂ (λ x xs. x ∷ xs) same
        (above_both n j test ks (more_above n k ks lt rising.0) behind
        ∙ sym (ap (λ b. cond (b && test k) (k ∷ above j test ks) (above j test ks)) (le-ltb j k (omega arith))))
    by true false u e rest = further e rest
    by false passes u e rest = further e rest

-- the test of a footprint, at the kept events of a history
abbrev pub meets : Timeline → FootprintValue → ℕ → Bool
meets t f k = conflicts (Some f) (kept_footprint t k)

-- the nearest, event by event
nearest_along : (m : ManifestValue) (jobs n : ℕ) (f : FootprintValue) (whole : List (ℕ × FootprintValue)) (s : State) (es : Numbered) → causal.IsRising es
    → ((k : ℕ) (g : FootprintValue) → causal.event_at k (footprints_along m s es) ≡ Some g → causal.event_at k whole ≡ Some g)
    → causal.nearest_above (machine m jobs) n (print_of f) (entries (machine m jobs) s es) ≡ first_passing n (λ k. conflicts (Some f) (causal.event_at k whole)) (map (λ e. e.0) es)
nearest_along m jobs n f whole s [] rising sub = refl
nearest_along m jobs n f whole s (e ∷ es) rising sub =
    ap₂ (λ b o. cond (nat_lt n e.0) (cond b (Some e.0) o) o) (sym (ap (conflicts (Some f)) here)) (nearest_along m jobs n f whole (after m s e.1) es rising.1 further)
  where
    here : causal.event_at e.0 whole ≡ Some (footprint m s e.1)
    here = sub e.0 (footprint m s e.1) (ap (λ b. cond b (Some (footprint m s e.1)) (causal.event_at e.0 (footprints_along m (after m s e.1) es))) (eq-eqb e.0 e.0 refl))

    missing : causal.event_at e.0 (footprints_along m (after m s e.1) es) ≡ None
    missing = along_none m jobs (after m s e.1) es e.0 (by_number.above_missing e.0 es rising.0)

    further : (k : ℕ) (g : FootprintValue) → causal.event_at k (footprints_along m (after m s e.1) es) ≡ Some g → causal.event_at k whole ≡ Some g
    further k g at = elim (either (nat_eq e.0 k)) [
      | inl t ↦
          let same : e.0 ≡ k = eqb-true e.0 k t in
          let never : Some g ≡ None = sym at ∙ ap (λ j. causal.event_at j (footprints_along m (after m s e.1) es)) (sym same) ∙ missing in
          cc
      | inr o ↦ sub k g (ap (λ b. cond b (Some (footprint m s e.1)) (causal.event_at k (footprints_along m (after m s e.1) es))) o ∙ at)
    ]

numbers_kept : (es : Numbered) (ks : List ℕ) → AllAccepted es ks → map (λ e. e.0) (chosen es ks) ≡ ks
numbers_kept es [] all = refl
numbers_kept es (k ∷ ks) all =
    let e = some_is (causal.event_at k es) all.0 in
    ap (λ o. map (λ x. x.0) (under k o (chosen es ks))) e.1 ∙ ap (λ xs. k ∷ xs) (numbers_kept es ks all.1)

nearest_passing : (t : Timeline) (n : ℕ) (f : FootprintValue) → IsHistory t → nearest_conflict n f t ≡ first_passing n (meets t f) t.kept
nearest_passing t n f h =
    nearest_along t.manifest t.jobs n f (footprints_along t.manifest t.opening (kept_events t)) t.opening (kept_events t) (chosen-rises t.accepted t.kept h.rising) (λ k g at. at)
    ∙ ap (first_passing n (meets t f)) (numbers_kept t.accepted t.kept h.accepted)

-- of the events that depend on a kept one those above a number
abbrev pub dependents_from : Timeline → ℕ → ℕ → List ℕ
dependents_from t n last = above last (λ k. conflicts (kept_footprint t n) (kept_footprint t k)) t.kept

-- where there is no nearest, no more depends; else it is the first of those that do
pub no_nearest : (t : Timeline) (n last : ℕ) → IsHistory t → ((f : FootprintValue) → kept_footprint t n ≡ Some f → None ≡ nearest_conflict last f t) → dependents_from t n last ≡ []
no_nearest t n last h same = by (kept_footprint t n) refl
  where
    none_of : (ks : List ℕ) → above last (λ k. conflicts None (kept_footprint t k)) ks ≡ []
    none_of [] = refl
    none_of (k ∷ ks) = none_here (nat_lt last k) (none_of ks)
      where
        none_here : (b : Bool) → above last (λ j. conflicts None (kept_footprint t j)) ks ≡ []
            → cond (b && false) (k ∷ above last (λ j. conflicts None (kept_footprint t j)) ks) (above last (λ j. conflicts None (kept_footprint t j)) ks) ≡ []
        none_here true rest = rest
        none_here false rest = rest

    by : (o : Option FootprintValue) → kept_footprint t n ≡ o → above last (λ k. conflicts o (kept_footprint t k)) t.kept ≡ []
    by None at = none_of t.kept
    by (Some f) at = none_passes last (meets t f) t.kept (sym (nearest_passing t last f h) ∙ sym (same f at))

pub nearest_first : (t : Timeline) (n last j : ℕ) → IsHistory t → ((f : FootprintValue) → kept_footprint t n ≡ Some f → Some j ≡ nearest_conflict last f t) → (kept_footprint t n ≡ None → Some j ≡ None)
    → dependents_from t n last ≡ j ∷ dependents_from t n j
nearest_first t n last j h same none = by (kept_footprint t n) refl
  where
    some_none : Some j ≡ None → ⊥
    some_none e = cc

    by : (o : Option FootprintValue) → kept_footprint t n ≡ o → above last (λ k. conflicts o (kept_footprint t k)) t.kept ≡ j ∷ above j (λ k. conflicts o (kept_footprint t k)) t.kept
    by None at = absurd (some_none (none at))
    by (Some f) at = some_passes last (meets t f) t.kept j h.rising (sym (nearest_passing t last f h) ∙ sym (same f at))
