-- Footprints beside some kept events, and the same along the history.
use Rattle.std.proofs.Common.{◌≡◌, ℕ, zero, suc, ◌<◌, ◌+◌, Bool, true, false, cond, List, [], ◌∷◌, ◌++◌, map, take, length, get_or, Option, None, Some, IsSome, is_some, option_map, nat_eq, refl, sym, ap, ap₂, ◌∙◌, true≢false, arith}
use Rattle.std.specs.List.{AllByRecursion}
use Rattle.std.specs.Ordering.{nat_cmp}
use Rattle.std.proofs.lemmas.List.{append-nil, take_more}
use Rattle.rev_causal.specs.Chosen.{IsRising, chosen, is_among, under}
use Rattle.rev_causal.specs.History as causal
use Rattle.rev_causal.specs.Store.{conflict}
use Rattle.rev_causal.proofs.Chosen.{All-chosen, chosen-rises, event_at-not_chosen, not_among_below}
use Rattle.rev_causal.proofs.KeptTables.{put_last}
use Rattle.rev_cells.specs.Keys.{cell_cmp}
use Rattle.rev_footprint.specs.Value.{FootprintValue, print_of}
use Rattle.rev_order.specs.Pairs.{inverted_pair}
use Rattle.rev_history.specs.declared.history.History.TheInside.{Inside}
use Rattle.rev_history.specs.Along.{HavePrints, inverted_along, prints_along}
use Rattle.rev_history.specs.Named.{CellPrints}
use Rattle.rev_history.specs.Sound.{IsListed, beside_of, timeline_of}
use Rattle.rev_history.specs.Steps.{HasFootprints, HaveSteps, footprint_beside, place_prints, prints_of}
use Rattle.rev_history.specs.Timeline.{Timeline, footprints_along, kept_events, kept_footprint}
use Rattle.rev_history.proofs.BesideKept.{all_among, print_beside}
use Rattle.rev_history.proofs.Fields.{all_footprints, has_print, no_print, print_found}
use Rattle.rev_history.proofs.NamedLemmas.{steps_of_footprints, steps_paired}
use Rattle.rev_history.proofs.PairedLemmas.{pair_same, paired_chosen}

-- UNDER ONE NUMBER
mapped_at : (n : ℕ) (ps : List (ℕ × FootprintValue))
    → causal.event_at n (map (λ (p : ℕ × FootprintValue). (p.0, print_of p.1)) ps) ≡ option_map print_of (causal.event_at n ps)
mapped_at n [] = refl
mapped_at n (p ∷ ps) =
    elim (nat_eq p.0 n) as (λ b. cond b (Some (print_of p.1)) (causal.event_at n (map (λ (q : ℕ × FootprintValue). (q.0, print_of q.1)) ps))
    ≡ option_map print_of (cond b (Some p.1) (causal.event_at n ps))) [
      | true ↦ refl
      | false ↦ mapped_at n ps
    ]

along_at : (t : Timeline) (n : ℕ) → causal.event_at n (prints_along t) ≡ option_map print_of (kept_footprint t n)
along_at t n = mapped_at n (footprints_along t.manifest t.opening (kept_events t))

module _ (a : Inside) (l : IsListed a) (t : Timeline) (view : timeline_of a ≡ t) where
  -- what has a footprint is kept
  kept_along : (n : ℕ) → IsSome (causal.event_at n (prints_along t)) → is_among a.kept.items n ≡ true
  kept_along n some = by (is_among a.kept.items n) refl
    where
      by : (b : Bool) → is_among a.kept.items n ≡ b → is_among a.kept.items n ≡ true
      by true e = e
      by false e = absurd (true≢false (sym some ∙ ap is_some (along_at t n ∙ ap (option_map print_of) (sym (no_print a t view n a.kept.items refl e)))))

  -- and the footprint beside it is that one
  beside_along : (n : ℕ) → is_among a.kept.items n ≡ true → causal.event_at n (prints_of a.accepted.entries (beside_of a)) ≡ causal.event_at n (prints_along t)
  beside_along n among = by (footprint_beside n a.accepted.entries (beside_of a)) refl
    where
      by : (o : Option FootprintValue) → footprint_beside n a.accepted.entries (beside_of a) ≡ o
          → causal.event_at n (prints_of a.accepted.entries (beside_of a)) ≡ causal.event_at n (prints_along t)
      by None none = absurd (has_print a l.sound n among (sym none))
      by (Some f) some =
          print_beside n a.accepted.entries (beside_of a) f some
          ∙ sym (along_at t n ∙ ap (option_map print_of) (sym (print_found a l.sound t view n a.kept.items (beside_of a) refl among refl) ∙ some))

  chosen_along : (ks : List ℕ) → HavePrints t ks → chosen (prints_of a.accepted.entries (beside_of a)) ks ≡ chosen (prints_along t) ks
  chosen_along [] all = refl
  chosen_along (k ∷ ks) all =
      let one = beside_along k (kept_along k all.0) in
      let rest = chosen_along ks all.1 in
      λ i. under k (one i) (rest i)

  have_footprints : (ks : List ℕ) → HavePrints t ks → HasFootprints a.accepted.entries (beside_of a) ks
  have_footprints [] all = tt
  have_footprints (k ∷ ks) all =
      (all_among (λ n. IsSome (footprint_beside n a.accepted.entries (beside_of a))) a.kept.items k (all_footprints a l.sound) (kept_along k all.0), have_footprints ks all.1)

  -- so beside each stands a step
  pub steps_along : (ks : List ℕ) → HavePrints t ks → HaveSteps a.accepted.entries a.steps.items ks
  steps_along ks all = steps_of_footprints a.cells.places a.accepted.entries a.steps.items ks (have_footprints ks all)

  -- and the first inverted pair is that of the steps
  pub pair_along : (places ks : List ℕ) → HavePrints t ks
      → inverted_pair (conflict nat_cmp) places (chosen (place_prints a.accepted.entries a.steps.items) ks) ≡ inverted_along t places ks
  pair_along places ks all =
      pair_same a.cells.places l.distinct places (chosen (place_prints a.accepted.entries a.steps.items) ks) (chosen (prints_of a.accepted.entries (beside_of a)) ks)
      (paired_chosen a.cells.places (place_prints a.accepted.entries a.steps.items) (prints_of a.accepted.entries (beside_of a)) ks
      (steps_paired a.cells.places a.accepted.entries a.steps.items l.placed))
      ∙ ap (λ (ps : CellPrints). inverted_pair (conflict cell_cmp) places ps) (chosen_along ks all)

-- ONE MORE NUMBER
All-take : (P : ℕ → Type 0) (i : ℕ) (ks : List ℕ) → AllByRecursion P ks → AllByRecursion P (take i ks)
All-take P zero ks all = tt
All-take P (suc i) [] all = tt
All-take P (suc i) (k ∷ ks) all = (all.0, All-take P i ks all.1)

All-get : (P : ℕ → Type 0) (i d : ℕ) (ks : List ℕ) → AllByRecursion P ks → i < length ks → P (get_or ks i d)
All-get P i d [] all within = absurd (omega (arith, within))
All-get P zero d (k ∷ ks) all within = all.0
All-get P (suc i) d (k ∷ ks) all within = All-get P i d ks all.1 (omega (arith, within))

rising-take : (i : ℕ) (ks : List ℕ) → IsRising ks → IsRising (take i ks)
rising-take zero ks rising = tt
rising-take (suc i) [] rising = tt
rising-take (suc i) (k ∷ ks) rising = (All-take (λ y. k < y) i ks rising.0, rising-take i ks rising.1)

below-at : (i d : ℕ) (ks : List ℕ) → IsRising ks → i < length ks → AllByRecursion (λ k. k < get_or ks i d) (take i ks)
below-at i d [] rising within = absurd (omega (arith, within))
below-at zero d (k ∷ ks) rising within = tt
below-at (suc i) d (k ∷ ks) rising within =
    (All-get (λ y. k < y) i d ks rising.0 (omega (arith, within)), below-at i d ks rising.1 (omega (arith, within)))

module _ {A : Type 0} where
  under-append : (k : ℕ) (o : Option A) (xs ys : List (ℕ × A)) → under k o (xs ++ ys) ≡ under k o xs ++ ys
  under-append k None xs ys = refl
  under-append k (Some a) xs ys = refl

  chosen-end : (es : List (ℕ × A)) (ks : List ℕ) (n : ℕ) → chosen es (ks ++ n ∷ []) ≡ chosen es ks ++ under n (causal.event_at n es) []
  chosen-end es [] n = refl
  chosen-end es (k ∷ ks) n =
      ap (under k (causal.event_at k es)) (chosen-end es ks n)
      ∙ under-append k (causal.event_at k es) (chosen es ks) (under n (causal.event_at n es) [])

  -- what stands under the numbers up to a place, and under the next one
  pub put_next : (es : List (ℕ × A)) (ks : List ℕ) (i : ℕ) (f : A) → IsRising ks → i < length ks → causal.event_at (get_or ks i 0) es ≡ Some f
      → causal.put (get_or ks i 0) f (chosen es (take i ks)) ≡ chosen es (take (i + 1) ks)
  put_next es ks i f rising within at =
      put_last (get_or ks i 0) f (chosen es (take i ks)) (All-chosen (λ k. k < get_or ks i 0) es (take i ks) (below-at i 0 ks rising within))
      ∙ ap (λ o. chosen es (take i ks) ++ under (get_or ks i 0) o []) (sym at)
      ∙ sym (chosen-end es (take i ks) (get_or ks i 0)) ∙ ap (chosen es) (sym (take_more ks i 0 within))

  pub next_missing : (es : List (ℕ × A)) (ks : List ℕ) (i : ℕ) → IsRising ks → i < length ks → causal.event_at (get_or ks i 0) (chosen es (take i ks)) ≡ None
  next_missing es ks i rising within =
      event_at-not_chosen es (take i ks) (get_or ks i 0) (not_among_below (take i ks) (get_or ks i 0) (below-at i 0 ks rising within))

  pub taken_rises : (es : List (ℕ × A)) (ks : List ℕ) (i : ℕ) → IsRising ks → causal.IsRising (chosen es (take i ks))
  taken_rises es ks i rising = chosen-rises es (take i ks) (rising-take i ks rising)
