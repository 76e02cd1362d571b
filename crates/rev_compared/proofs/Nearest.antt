-- The nearest conflict of a footprint with others under rising numbers.
use Rattle.std.proofs.Common.{◌≡◌, ℕ, ◌<◌, Bool, true, false, cond, List, [], ◌∷◌, map, Option, None, Some, IsSome, ◌⊎◌, inl, inr, nat_eq, refl, sym, ap, subst, ◌∙◌, true≢false, eqb-true, eq-eqb, ltb-true, lt-ltb, arith}
use Rattle.std.specs.Prelude.{nat_lt}
use Rattle.std.specs.List.{AllByRecursion}
use Rattle.std.specs.declared.cmp.Ordering.{Ordering}
use Rattle.rev_causal.specs.Entries.{entries}
use Rattle.rev_causal.specs.History as causal
use Rattle.rev_causal.specs.KeptHistory.{nearest_in}
use Rattle.rev_causal.specs.Store.{Footprint, conflict}
use Rattle.rev_causal.proofs.Chosen.{chosen-rises}
use Rattle.rev_causal.proofs.Runs.{either}
use Rattle.rev_cells.specs.declared.cell.Cell.{Cell}
use Rattle.rev_cells.specs.Keys.{cell_cmp}
use Rattle.rev_cells.specs.State.{State}
use Rattle.rev_events.specs.Machine.{after}
use Rattle.rev_footprint.specs.Footprint.{footprint}
use Rattle.rev_footprint.specs.Machine.{machine}
use Rattle.rev_footprint.specs.Value.{FootprintValue, print_of}
use Rattle.rev_history.specs.Along.{prints_along}
use Rattle.rev_history.specs.Timeline.{IsHistory, Numbered, Timeline, footprints_along, kept_events, kept_footprint, nearest_conflict}
use Rattle.rev_manifest.specs.Manifest.{ManifestValue}
use Rattle.rev_compared.specs.Inverted.{is_dependent}
use Rattle.rev_compared.proofs.Prints.{print-there}

-- AMONG FOOTPRINTS UNDER NUMBERS
module _ {K : Type 0} (R : K → K → Ordering) (n : ℕ) (f : Footprint K) where
  both : (b : Bool) (o : Option ℕ) → cond b o o ≡ o
  both true o = refl
  both false o = refl

  -- it is the first of them, or the search goes on
  step : (p : ℕ × Footprint K) (ps : List (ℕ × Footprint K))
      → ((nearest_in R n f (p ∷ ps) ≡ Some p.0) × ((n < p.0) × (conflict R f p.1 ≡ true)))
      ⊎ ((nearest_in R n f (p ∷ ps) ≡ nearest_in R n f ps) × (n < p.0 → conflict R f p.1 ≡ false))
  step p ps = elim (either (nat_lt n p.0)) [
    | inl t ↦ elim (either (conflict R f p.1)) [
      | inl c ↦ inl (
        ap (λ b. cond b (cond (conflict R f p.1) (Some p.0) (nearest_in R n f ps)) (nearest_in R n f ps)) t
            ∙ ap (λ b. cond b (Some p.0) (nearest_in R n f ps)) c,
        (ltb-true n p.0 t, c),
      )
      | inr c ↦ inr (
        ap (λ b. cond (nat_lt n p.0) (cond b (Some p.0) (nearest_in R n f ps)) (nearest_in R n f ps)) c
            ∙ both (nat_lt n p.0) (nearest_in R n f ps),
        λ lt. c,
      )
    ]
    | inr t ↦ inr (
      ap (λ b. cond b (cond (conflict R f p.1) (Some p.0) (nearest_in R n f ps)) (nearest_in R n f ps)) t,
      λ lt. absurd (true≢false (sym (lt-ltb n p.0 lt) ∙ t)),
    )
  ]

  -- it is above the number
  pub above : (ps : List (ℕ × Footprint K)) (m : ℕ) → nearest_in R n f ps ≡ Some m → n < m
  above [] m h = cc
  above (p ∷ ps) m h = elim (step p ps) [
    | inl found ↦ let w : Some p.0 ≡ Some m = sym found.0 ∙ h in let is : p.0 ≡ m = cc in subst (λ j. n < j) is found.1.0
    | inr on ↦ above ps m (sym on.0 ∙ h)
  ]

  -- and above what all of them are above
  behind : (x : ℕ) (ps : List (ℕ × Footprint K)) (m : ℕ) → AllByRecursion (λ (p : ℕ × Footprint K). x < p.0) ps
      → nearest_in R n f ps ≡ Some m → x < m
  behind x [] m all h = cc
  behind x (p ∷ ps) m all h = elim (step p ps) [
    | inl found ↦ let w : Some p.0 ≡ Some m = sym found.0 ∙ h in let is : p.0 ≡ m = cc in subst (λ j. x < j) is all.0
    | inr on ↦ behind x ps m all.1 (sym on.0 ∙ h)
  ]

  there-behind : (x : ℕ) (ps : List (ℕ × Footprint K)) (k : ℕ) (g : Footprint K)
      → AllByRecursion (λ (p : ℕ × Footprint K). x < p.0) ps → causal.event_at k ps ≡ Some g → x < k
  there-behind x [] k g all h = cc
  there-behind x (p ∷ ps) k g all h = elim (either (nat_eq p.0 k)) [
    | inl e ↦ let is : p.0 ≡ k = eqb-true p.0 k e in subst (λ j. x < j) is all.0
    | inr e ↦ there-behind x ps k g all.1 (sym (ap (λ b. cond b (Some p.1) (causal.event_at k ps)) e) ∙ h)
  ]

  -- what stands under it conflicts
  pub conflicts : (ps : List (ℕ × Footprint K)) (m : ℕ) (g : Footprint K) → causal.IsRising ps
      → nearest_in R n f ps ≡ Some m → causal.event_at m ps ≡ Some g → conflict R f g ≡ true
  conflicts [] m g rising h there = cc
  conflicts (p ∷ ps) m g rising h there = elim (step p ps) [
    | inl found ↦
        let w : Some p.0 ≡ Some m = sym found.0 ∙ h in
        let is : p.0 ≡ m = cc in
        let same : Some p.1 ≡ Some g = sym (ap (λ b. cond b (Some p.1) (causal.event_at m ps)) (eq-eqb p.0 m is)) ∙ there in
        let this : p.1 ≡ g = cc in
        subst (λ x. conflict R f x ≡ true) this found.1.1
    | inr on ↦ elim (either (nat_eq p.0 m)) [
      | inl e ↦
          let is : p.0 ≡ m = eqb-true p.0 m e in
          let less : p.0 < m = behind p.0 ps m rising.0 (sym on.0 ∙ h) in
          absurd (omega (arith, is, less))
      | inr e ↦ conflicts ps m g rising.1 (sym on.0 ∙ h)
          (sym (ap (λ b. cond b (Some p.1) (causal.event_at m ps)) e) ∙ there)
    ]
  ]

  -- nothing between the number and it does
  pub clear : (ps : List (ℕ × Footprint K)) (k : ℕ) (g : Footprint K) → causal.IsRising ps
      → causal.event_at k ps ≡ Some g → n < k → ((m : ℕ) → nearest_in R n f ps ≡ Some m → k < m) → conflict R f g ≡ false
  clear [] k g rising there lt below = cc
  clear (p ∷ ps) k g rising there lt below = elim (either (nat_eq p.0 k)) [
    | inl e ↦
        let is : p.0 ≡ k = eqb-true p.0 k e in
        let same : Some p.1 ≡ Some g = sym (ap (λ b. cond b (Some p.1) (causal.event_at k ps)) e) ∙ there in
        let this : p.1 ≡ g = cc in
        elim (step p ps) [
          | inl found ↦ let less : k < p.0 = below p.0 found.0 in absurd (omega (arith, is, less))
          | inr on ↦ subst (λ x. conflict R f x ≡ false) this (on.1 (subst (λ j. n < j) (sym is) lt))
        ]
    | inr e ↦
        let later : causal.event_at k ps ≡ Some g = sym (ap (λ b. cond b (Some p.1) (causal.event_at k ps)) e) ∙ there in
        elim (step p ps) [
          | inl found ↦
              let less : k < p.0 = below p.0 found.0 in
              let more : p.0 < k = there-behind p.0 ps k g rising.0 later in
              absurd (omega (arith, less, more))
          | inr on ↦ clear ps k g rising.1 later lt (λ m h. below m (on.0 ∙ h))
        ]
  ]

-- ALONG A HISTORY
nearest-along : (manifest : ManifestValue) (jobs n : ℕ) (f : Footprint Cell) (s : State) (es : Numbered)
    → causal.nearest_above (machine manifest jobs) n f (entries (machine manifest jobs) s es)
    ≡ nearest_in cell_cmp n f (map (λ (p : ℕ × FootprintValue). (p.0, print_of p.1)) (footprints_along manifest s es))
nearest-along manifest jobs n f s [] = refl
nearest-along manifest jobs n f s (e ∷ es) =
    ap (λ o. cond (nat_lt n e.0) (cond (conflict cell_cmp f (print_of (footprint manifest s e.1))) (Some e.0) o) o)
    (nearest-along manifest jobs n f (after manifest s e.1) es)

-- the nearest conflict of a history is that of its footprints
pub nearest-is : (t : Timeline) (n : ℕ) (f : FootprintValue)
    → nearest_conflict n f t ≡ nearest_in cell_cmp n (print_of f) (prints_along t)
nearest-is t n f = nearest-along t.manifest t.jobs n (print_of f) t.opening (kept_events t)

all-along : (manifest : ManifestValue) (x : ℕ) (s : State) (es : Numbered) → AllByRecursion (λ y. x < y.0) es
    → AllByRecursion (λ (y : ℕ × Footprint Cell). x < y.0) (map (λ (p : ℕ × FootprintValue). (p.0, print_of p.1)) (footprints_along manifest s es))
all-along manifest x s [] all = tt
all-along manifest x s (e ∷ es) all = (all.0, all-along manifest x (after manifest s e.1) es all.1)

rising-along : (manifest : ManifestValue) (s : State) (es : Numbered) → causal.IsRising es
    → causal.IsRising (map (λ (p : ℕ × FootprintValue). (p.0, print_of p.1)) (footprints_along manifest s es))
rising-along manifest s [] rising = tt
rising-along manifest s (e ∷ es) rising =
    (all-along manifest e.0 (after manifest s e.1) es rising.0, rising-along manifest (after manifest s e.1) es rising.1)

-- and their numbers rise
pub prints-rise : (t : Timeline) → IsHistory t → causal.IsRising (prints_along t)
prints-rise t legal = rising-along t.manifest t.opening (kept_events t) (chosen-rises t.accepted t.kept legal.rising)

-- it is above the number, whichever footprint it conflicts with
pub near-above : (t : Timeline) (n first near : ℕ) (found : Option ℕ)
    → ((f : FootprintValue) → kept_footprint t first ≡ Some f → found ≡ nearest_conflict n f t)
    → (kept_footprint t first ≡ None → found ≡ None) → found ≡ Some near → n < near
near-above t n first near found same none is = by (kept_footprint t first) refl
  where
    by : (o : Option FootprintValue) → kept_footprint t first ≡ o → n < near
    by None e = let w : Some near ≡ None = sym is ∙ none e in cc
    by (Some f) e = above cell_cmp n (print_of f) (prints_along t) near (sym (nearest-is t n f) ∙ sym (same f e) ∙ is)

-- the event under it depends on the other one
pub depends-at : (t : Timeline) → IsHistory t → (n k : ℕ) (f : FootprintValue) → IsSome (causal.event_at k (prints_along t))
    → nearest_conflict n f t ≡ Some k → is_dependent (print_of f) (causal.event_at k (prints_along t)) ≡ true
depends-at t legal n k f there is =
    let at = print-there t k there in
    ap (is_dependent (print_of f)) at.1.1
    ∙ conflicts cell_cmp n (print_of f) (prints_along t) k (print_of at.0) (prints-rise t legal) (sym (nearest-is t n f) ∙ is) at.1.1

-- no event between does
pub independent-before : (t : Timeline) → IsHistory t → (n k : ℕ) (f : FootprintValue) → IsSome (causal.event_at k (prints_along t))
    → n < k → ((m : ℕ) → nearest_conflict n f t ≡ Some m → k < m)
    → is_dependent (print_of f) (causal.event_at k (prints_along t)) ≡ false
independent-before t legal n k f there behind before =
    let at = print-there t k there in
    ap (is_dependent (print_of f)) at.1.1
    ∙ clear cell_cmp n (print_of f) (prints_along t) k (print_of at.0) (prints-rise t legal) at.1.1 behind
    (λ m h. before m (nearest-is t n f ∙ h))
