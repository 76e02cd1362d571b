-- The members of a cone, as the code finds them, number by number.
use Rattle.std.proofs.Common.{◌≡◌, ℕ, false, ◌&&◌, ◌||◌, cond, List, [], ◌∷◌, ◌++◌, None, refl, sym, ap, ap₂, subst, ◌∙◌}
use Rattle.std.specs.Prelude.{nat_lt}
use Rattle.std.specs.Ordering.{nat_cmp}
use Rattle.std.specs.List.{list_any}
use Rattle.rev_causal.specs.History as causal
use Rattle.rev_causal.specs.Store.{Footprint, conflict}
use Rattle.rev_causal.specs.Chosen.{under, chosen}
use Rattle.rev_causal.proofs.Chosen.{AllAccepted, some_is, accepted_among, chosen-rises, event_at-chosen}
use Rattle.rev_causal.proofs.KeptCones as kept_cones
use Rattle.rev_causal.proofs.KeptCones.{any_push}
use Rattle.rev_cells.specs.declared.cell.Cell.{Cell}
use Rattle.rev_cells.specs.Keys.{cell_cmp}
use Rattle.rev_manifest.specs.Manifest.{ManifestValue}
use Rattle.rev_footprint.specs.Machine.{machine}
use Rattle.rev_history.specs.declared.history.History.TheInside.{Inside}
use Rattle.rev_history.specs.Named.{CellPrints}
use Rattle.rev_history.specs.Sound.{ArePlacedIn, IsListed, IsSound, beside_of, timeline_of}
use Rattle.rev_accesses.specs.Closing.{conflicts_before, conflicts_with_any, cone_behind}
use Rattle.rev_history.specs.Steps.{Beside, Placed, named, place_prints, prints_of}
use Rattle.rev_history.specs.Timeline.{Timeline, kept_events, cone_refusal, cone_numbers}
use Rattle.rev_history.proofs.Cones.{IsKept, some_kept}
use Rattle.rev_history.proofs.Listed.{all_prints}
use Rattle.rev_history.proofs.NamedLemmas.{steps_paired}
use Rattle.rev_history.proofs.PairedLemmas.{cone_same}

module _ (m : ManifestValue) (jobs : ℕ) where
  -- the footprints of the members conflict with what the footprints of a list conflict with
  abbrev AreOf : CellPrints → List ℕ → List (Footprint Cell) → Type 0
  AreOf prints ms fs = (g : Footprint Cell) → list_any (λ k. conflicts_before cell_cmp g (causal.event_at k prints)) ms ≡ list_any (λ f. conflict cell_cmp f g) fs

  -- by numbers and by footprints the same
  by_footprints : (n : ℕ) (prints : CellPrints) (ks ms : List ℕ) (fs : List (Footprint Cell)) → AllAccepted prints ks → AreOf prints ms fs → cone_behind cell_cmp n prints ms ks ≡ kept_cones.cone_in (machine m jobs) n fs (chosen prints ks)
  by_footprints n prints [] ms fs all same = refl
  by_footprints n prints (k ∷ ks) ms fs all same =
      let g = some_is (causal.event_at k prints) all.0 in
      let rest : CellPrints = chosen prints ks in
      ap (λ o. cond (nat_lt n k && conflicts_with_any cell_cmp prints ms o) (k ∷ cone_behind cell_cmp n prints (ms ++ k ∷ []) ks) (cone_behind cell_cmp n prints ms ks)) g.1
      ∙ ap (λ b. cond (nat_lt n k && b) (k ∷ cone_behind cell_cmp n prints (ms ++ k ∷ []) ks) (cone_behind cell_cmp n prints ms ks)) (same g.0)
      ∙ ap₂ (λ xs ys. cond (nat_lt n k && list_any (λ f. conflict cell_cmp f g.0) fs) (k ∷ xs) ys)
      (by_footprints n prints ks (ms ++ k ∷ []) (fs ++ g.0 ∷ []) all.1
      (λ h. any_push (λ j. conflicts_before cell_cmp h (causal.event_at j prints)) ms k
      ∙ ap₂ (λ o b. conflicts_before cell_cmp h o || b) g.1 (same h)
      ∙ sym (any_push (λ f. conflict cell_cmp f h) fs g.0)))
      (by_footprints n prints ks ms fs all.1 same)
      ∙ sym (ap (λ o. kept_cones.cone_in (machine m jobs) n fs (under k o rest)) g.1)

-- the members that are found are the cone
pub cone_is_found : (a : Inside) → IsSound a → (t : Timeline) → timeline_of a ≡ t → (n : ℕ) (ks : List ℕ) (steps : List Beside) → ks ≡ a.kept.items → steps ≡ (beside_of a) → cone_refusal t n ≡ None
    → n ∷ cone_behind cell_cmp n (prints_of a.accepted.entries steps) (n ∷ []) ks ≡ cone_numbers n t
cone_is_found a s t view n ks steps kept same_steps free =
    let u : Timeline = timeline_of a in
    let w = machine a.graph.manifest a.opening.jobs in
    let k : IsKept u n = some_kept u n (ap (λ (v : Timeline). cone_refusal v n) view ∙ free) in
    let prints : CellPrints = prints_of a.accepted.entries (beside_of a) in
    let all : AllAccepted prints a.kept.items = all_prints a s in
    let f = accepted_among prints a.kept.items n all k.among in
    let prints_are : chosen prints a.kept.items ≡ causal.footprints_by_number w a.opening.state (kept_events u) = s.stepped.history.footprints_are in
    ap₂ (λ xs js. n ∷ cone_behind cell_cmp n (prints_of a.accepted.entries xs) (n ∷ []) js) same_steps kept
    ∙ ap (λ ns. n ∷ ns) (by_footprints a.graph.manifest a.opening.jobs n prints a.kept.items (n ∷ []) (f.0 ∷ []) all (λ g. ap (λ o. conflicts_before cell_cmp g o || false) f.1))
    ∙ ap (λ ps. n ∷ kept_cones.cone_in w n (f.0 ∷ []) ps) prints_are
    ∙ kept_cones.cone_found w n a.opening.state (kept_events u) f.0 (chosen-rises a.accepted.entries a.kept.items s.stepped.rising)
    (ap (causal.event_at n) (sym prints_are) ∙ event_at-chosen prints a.kept.items n f.0 k.among f.1)
    ∙ ap (cone_numbers n) view

-- and so are those that are found by places
pub cone_by_places : (a : Inside) → IsListed a → (t : Timeline) → timeline_of a ≡ t → (n : ℕ) (ks : List ℕ) (steps : List Placed) → ks ≡ a.kept.items → steps ≡ a.steps.items → cone_refusal t n ≡ None
    → n ∷ cone_behind nat_cmp n (place_prints a.accepted.entries steps) (n ∷ []) ks ≡ cone_numbers n t
cone_by_places a l t view n ks steps kept same_steps free =
    ap (λ (ns : List ℕ). n ∷ ns)
    (cone_same a.cells.places l.distinct (place_prints a.accepted.entries steps) (prints_of a.accepted.entries (named a.cells.places steps))
    (steps_paired a.cells.places a.accepted.entries steps (subst (ArePlacedIn a.cells.places) (sym same_steps) l.placed)) n (n ∷ []) ks)
    ∙ cone_is_found a l.sound t view n ks (named a.cells.places steps) kept (ap (named a.cells.places) same_steps) free
