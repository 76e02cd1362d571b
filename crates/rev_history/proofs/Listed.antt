-- The access lists of a history, after an event came or went.
use Rattle.std.proofs.Common.{◌≡◌, ℕ, ◌<◌, true, false, cond, if◌then◌else◌, List, [], ◌∷◌, ◌++◌, Option, None, Some, option_map, map, slice_get, length, length-set, get_or, set, refl, sym, ap, ap₂, subst, ◌∙◌, inl, inr, nat_eq, eq-eqb, arith}
use Rattle.std.specs.Prelude.{nat_lt}
use Rattle.std.specs.List.{AllByRecursion}
use Rattle.std.specs.FinSet as cells
use Rattle.std.proofs.lemmas.List.{length-map, map-set}
use Rattle.std.proofs.lemmas.Option.{slice_get-map, slice_get-get_or}
use Rattle.rev_accesses.specs.Value.{Prints}
use Rattle.rev_causal.specs.AccessLists.{numbers_by}
use Rattle.rev_causal.specs.Chosen.{chosen, under, last_of, is_among, without, placed}
use Rattle.rev_causal.specs.History as causal
use Rattle.rev_causal.specs.KeptHistory.{nearest_in}
use Rattle.rev_causal.specs.Store.{Footprint, Footprint.Whole, Footprint.Cells, among}
use Rattle.rev_causal.proofs.Beside.{IsPlace, place_within, beside_at, beside_set, chosen_other, all_beside, beside_push, last_of_beside}
use Rattle.rev_causal.proofs.ByNumber.{put_rises}
use Rattle.rev_causal.proofs.Chosen.{AllAccepted, All-chosen, some_is, all_below, chosen-push, chosen-without, chosen-placed, chosen-rises, event_at-chosen, event_at-not_chosen, not_among_below, without-not_among}
use Rattle.rev_causal.proofs.KeptTables.{put_last}
use Rattle.rev_causal.proofs.Runs.{either}
use Rattle.rev_cells.specs.declared.cell.Cell.{Cell}
use Rattle.rev_cells.specs.declared.value.Value.{Value}
use Rattle.rev_cells.specs.Effects.{stored_values}
use Rattle.rev_cells.specs.Keys.{cell_cmp}
use Rattle.rev_cells.proofs.EntryLemmas.{cells_total}
use Rattle.rev_events.specs.declared.event.Event.{Event}
use Rattle.rev_events.specs.Machine.{effect}
use Rattle.rev_footprint.specs.Value as footprints
use Rattle.rev_footprint.specs.Value.{FootprintValue}
use Rattle.rev_history.specs.declared.history.History.TheInside.{Inside}
use Rattle.rev_footprint.specs.Footprint.{footprint}
use Rattle.rev_history.specs.Checked.{HasNow, WritesNow}
use Rattle.rev_history.specs.Sound.{beside_of, IsSound, kept_prints, timeline_of}
use Rattle.rev_history.specs.Steps.{Placed, place_prints, placed_print, print_of, prints_of, step_value}
use Rattle.rev_history.specs.Timeline.{Timeline, event_at, state_at, nearest_conflict}
use Rattle.rev_history.proofs.Fields.{as_many, map_end, found_above, state_of}

-- what the theory of undo sees of a footprint that is not whole, and of one that is
pub print_cells : (f : FootprintValue) → f.whole ≡ false → footprints.print_of f ≡ Cells (cells.items f.reads) f.writes
print_cells f part = ap (λ b. if b then Whole else Cells (cells.items f.reads) f.writes) part

pub print_whole : (f : FootprintValue) → f.whole ≡ true → footprints.print_of f ≡ Whole
print_whole f h = ap (λ b. if b then Whole else Cells (cells.items f.reads) f.writes) h

module _ {A : Type 0} where
  -- the numbers of what stands under numbers
  pub numbers_chosen : (es : List (ℕ × A)) (ks : List ℕ) → AllAccepted es ks → numbers_by (λ f. true) (chosen es ks) ≡ ks
  numbers_chosen es [] all = refl
  numbers_chosen es (k ∷ ks) all =
      let e = some_is (causal.event_at k es) all.0 in
      ap (λ o. numbers_by (λ f. true) (under k o (chosen es ks))) e.1 ∙ ap (λ xs. k ∷ xs) (numbers_chosen es ks all.1)

-- numbers that are kept have footprints
pub all_prints : (a : Inside) → IsSound a → AllAccepted (prints_of a.accepted.entries (beside_of a)) a.kept.items
all_prints a s = all_beside a.accepted.entries (map print_of (beside_of a)) a.kept.items s.stepped.as_many_prints s.stepped.each

-- by places too
many_places : (a : Inside) → IsSound a → length (map placed_print a.steps.items) ≡ length a.accepted.entries
many_places a s = length-map a.steps.items placed_print ∙ sym (length-map a.steps.items (option_map (step_value a.cells.places))) ∙ as_many a s

all_places : (a : Inside) → IsSound a → AllAccepted (place_prints a.accepted.entries a.steps.items) a.kept.items
all_places a s = all_beside a.accepted.entries (map placed_print a.steps.items) a.kept.items (many_places a s) s.stepped.each

pub prints_rise : (a : Inside) → IsSound a → causal.IsRising (kept_prints a)
prints_rise a s = chosen-rises (place_prints a.accepted.entries a.steps.items) a.kept.items s.stepped.rising

pub prints_numbers : (a : Inside) → IsSound a → numbers_by (λ f. true) (kept_prints a) ≡ a.kept.items
prints_numbers a s = numbers_chosen (place_prints a.accepted.entries a.steps.items) a.kept.items (all_places a s)

-- a number above all others has no footprint
pub print_missing : (a : Inside) → IsSound a → (n : ℕ) → last_of a.accepted.entries < n → causal.event_at n (kept_prints a) ≡ None
print_missing a s n lt =
    event_at-not_chosen (place_prints a.accepted.entries a.steps.items) a.kept.items n (not_among_below a.kept.items n (all_below a.accepted.entries a.kept.items n lt s.stepped.each))

-- nor has one that is not kept
pub print_apart : (a : Inside) (n : ℕ) → is_among a.kept.items n ≡ false → causal.event_at n (kept_prints a) ≡ None
print_apart a n apart = event_at-not_chosen (place_prints a.accepted.entries a.steps.items) a.kept.items n apart

-- the footprints after an event was accepted
pub accepted_prints : (a b : Inside) (n : ℕ) (e : Event) (step : Placed) → IsSound a → last_of a.accepted.entries < n → b.accepted.entries ≡ a.accepted.entries ++ (n, e) ∷ [] → b.kept.items ≡ a.kept.items ++ n ∷ [] → b.steps.items ≡ a.steps.items ++ step ∷ []
    → causal.put n (placed_print step) (kept_prints a) ≡ kept_prints b
accepted_prints a b n e step s lt accepted kept steps =
    let es : Prints = place_prints a.accepted.entries a.steps.items in
    let below : AllByRecursion (λ k. k < n) a.kept.items = all_below a.accepted.entries a.kept.items n lt s.stepped.each in
    put_last n (placed_print step) (chosen es a.kept.items) (All-chosen (λ k. k < n) es a.kept.items below)
    ∙ sym (chosen-push es a.kept.items n (placed_print step) (last_of_beside a.accepted.entries (map placed_print a.steps.items) n lt) below)
    ∙ ap (λ xs. chosen xs (a.kept.items ++ n ∷ [])) (sym (beside_push a.accepted.entries (map placed_print a.steps.items) (n, e) (placed_print step) (many_places a s)))
    ∙ ap (λ xs. chosen (causal.numbered_by (a.accepted.entries ++ (n, e) ∷ []) xs) (a.kept.items ++ n ∷ [])) (sym (map_end placed_print a.steps.items step))
    ∙ (λ j. chosen (place_prints (sym accepted j) (sym steps j)) (sym kept j))

-- after one was taken out
pub taken_prints : (a b : Inside) (n i : ℕ) (step : Placed) → IsSound a → IsPlace n a.accepted.entries i → b.accepted.entries ≡ a.accepted.entries → b.steps.items ≡ set a.steps.items i step → b.kept.items ≡ without n a.kept.items
    → causal.without n (kept_prints a) ≡ kept_prints b
taken_prints a b n i step s place accepted steps kept =
    sym (chosen-without (place_prints a.accepted.entries a.steps.items) a.kept.items n s.stepped.rising (all_places a s))
    ∙ sym (chosen_other n a.accepted.entries (map placed_print a.steps.items) i (placed_print step) (without n a.kept.items) place (without-not_among n a.kept.items))
    ∙ ap (λ xs. chosen (causal.numbered_by a.accepted.entries xs) (without n a.kept.items)) (sym (map-set placed_print a.steps.items i step))
    ∙ (λ j. chosen (place_prints (sym accepted j) (sym steps j)) (sym kept j))

-- after one was put in
pub put_prints : (a b : Inside) (n i : ℕ) (step : Placed) → IsSound a → IsPlace n a.accepted.entries i → is_among a.kept.items n ≡ false → b.accepted.entries ≡ a.accepted.entries → b.steps.items ≡ set a.steps.items i step → b.kept.items ≡ placed n a.kept.items
    → causal.put n (placed_print step) (kept_prints a) ≡ kept_prints b
put_prints a b n i step s place apart accepted steps kept =
    let fs : List (Footprint ℕ) = map placed_print a.steps.items in
    let within : i < length a.accepted.entries = place_within n a.accepted.entries i place in
    let same : length fs ≡ length a.accepted.entries = many_places a s in
    let lt : i < length fs = omega arith in
    let many : length (set fs i (placed_print step)) ≡ length a.accepted.entries = length-set fs i (placed_print step) ∙ same in
    sym
    (chosen-placed (causal.numbered_by a.accepted.entries (set fs i (placed_print step))) a.kept.items n (placed_print step) s.stepped.rising
    (all_beside a.accepted.entries (set fs i (placed_print step)) a.kept.items many s.stepped.each) apart (beside_set n a.accepted.entries fs i (placed_print step) place lt)
    ∙ ap (causal.put n (placed_print step)) (chosen_other n a.accepted.entries fs i (placed_print step) a.kept.items place apart))
    ∙ ap (λ xs. chosen (causal.numbered_by a.accepted.entries xs) (placed n a.kept.items)) (sym (map-set placed_print a.steps.items i step))
    ∙ (λ j. chosen (place_prints (sym accepted j) (sym steps j)) (sym kept j))

-- the same history in fields with more room
pub same_prints : (a b : Inside) → b.accepted.entries ≡ a.accepted.entries → b.steps.items ≡ a.steps.items → b.kept.items ≡ a.kept.items → kept_prints a ≡ kept_prints b
same_prints a b accepted steps kept = λ j. chosen (place_prints (sym accepted j) (sym steps j)) (sym kept j)

-- the nearest conflict of the footprints is that of the history
pub nearest_found : (a : Inside) → IsSound a → (t : Timeline) → timeline_of a ≡ t → (n : ℕ) (f : FootprintValue) (o : Option ℕ) → o ≡ nearest_in cell_cmp n (footprints.print_of f) (chosen (prints_of a.accepted.entries (beside_of a)) a.kept.items) → o ≡ nearest_conflict n f t
nearest_found a s t view n f o is = is ∙ found_above a s n (footprints.print_of f) ∙ ap (nearest_conflict n f) view

-- the footprint that the event of a number has now
pub has_now : (a : Inside) → IsSound a → (t : Timeline) → timeline_of a ≡ t → (n : ℕ) (e : Event) (f : FootprintValue) → Some e ≡ event_at t n → f ≡ footprint a.graph.manifest a.cells.state e → HasNow t n f
has_now a s t view n e f at is d there =
    let one : Some e ≡ Some d = at ∙ there in
    let same : e ≡ d = cc in
    is ∙ ap₂ (footprint a.graph.manifest) (state_of a s) same ∙ ap (λ (v : Timeline). footprint v.manifest (state_at v) d) view

pub print_now : (a : Inside) → IsSound a → (t : Timeline) → timeline_of a ≡ t → (n : ℕ) (e : Event) (f : FootprintValue) → HasNow t n f → causal.event_at n a.accepted.entries ≡ Some e → f ≡ footprint a.graph.manifest a.cells.state e
print_now a s t view n e f now at =
    now e (ap (λ (v : Timeline). event_at v n) (sym view) ∙ at) ∙ ap (λ (v : Timeline). footprint v.manifest (state_at v) e) (sym view) ∙ ap (λ v. footprint a.graph.manifest v e) (sym (state_of a s))

-- what the event of a number writes now
pub writes_now : (a : Inside) → IsSound a → (t : Timeline) → timeline_of a ≡ t → (n : ℕ) (e : Event) (ws : List (Cell × Value)) → Some e ≡ event_at t n → stored_values ws ≡ effect a.graph.manifest a.cells.state e → (d : Event) → event_at t n ≡ Some d → stored_values ws ≡ effect t.manifest (state_at t) d
writes_now a s t view n e ws at is d there =
    let one : Some e ≡ Some d = at ∙ there in
    let same : e ≡ d = cc in
    is ∙ ap₂ (effect a.graph.manifest) (state_of a s) same ∙ ap (λ (v : Timeline). effect v.manifest (state_at v) d) view

pub stored_now : (a : Inside) → IsSound a → (t : Timeline) → timeline_of a ≡ t → (n : ℕ) (e : Event) (ws : List (Cell × Value)) → WritesNow t n ws → causal.event_at n a.accepted.entries ≡ Some e → stored_values ws ≡ effect a.graph.manifest a.cells.state e
stored_now a s t view n e ws now at =
    now.stored e (ap (λ (v : Timeline). event_at v n) (sym view) ∙ at) ∙ ap (λ (v : Timeline). effect v.manifest (state_at v) e) (sym view) ∙ ap (λ v. effect a.graph.manifest v e) (sym (state_of a s))
