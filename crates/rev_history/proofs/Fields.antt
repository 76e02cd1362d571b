-- What the fields of a history show.
use Rattle.std.proofs.Common.{◌≡◌, ℕ, ◌<◌, true, false, cond, Option, None, Some, IsSome, option_map, map, slice_get, length, length-set, get_or, set, List, [], ◌∷◌, ◌++◌, refl, sym, ap, ap₂, subst, subst₂, is_some, true≢false, nat_eq, ◌∙◌, inl, inr, arith, zero, suc}
use Rattle.std.specs.Prelude.{IfSome}
use Rattle.std.specs.List.{AllByRecursion}
use Rattle.std.specs.Map.{lookup}
use Rattle.std.proofs.lemmas.List.{map-set, length-map}
use Rattle.std.proofs.lemmas.Option.{slice_get-map, slice_get-get_or}
use Rattle.rev_causal.specs.Chosen.{chosen}
use Rattle.rev_causal.specs.History as causal
use Rattle.rev_causal.specs.KeptHistory.{nearest_in}
use Rattle.rev_causal.specs.Stepped.{IsStepped}
use Rattle.rev_causal.specs.Store.{Footprint, Table as TableOf, replaced, replaced_by_number}
use Rattle.rev_causal.proofs.Beside.{IsPlace, place_within, beside_at, chosen_other}
use Rattle.rev_causal.proofs.Chosen.{last_of-push, some_is, accepted_among, without-not_among, lookup-event_at, event_at-chosen, event_at-not_chosen}
use Rattle.rev_causal.proofs.Runs.{either}
use Rattle.rev_causal.proofs.KeptTables as kept_tables
use Rattle.rev_causal.proofs.Steps as stepping
use Rattle.rev_cells.specs.declared.cell.Cell.{Cell}
use Rattle.rev_cells.specs.declared.value.Value.{Value}
use Rattle.rev_cells.specs.Keys.{cell_cmp}
use Rattle.rev_cells.specs.State.{State}
use Rattle.rev_cells.specs.Table.{Records, Table, raised_by, written_all}
use Rattle.rev_cells.proofs.EntryLemmas.{cells_total, cells_exact}
use Rattle.rev_events.specs.declared.event.Event.{Event}
use Rattle.rev_events.specs.declared.refusal.Refusal.TheVariants.{NotKept, AlreadyKept}
use Rattle.rev_events.specs.declared.refusal.Refusal.{Refusal}
use Rattle.rev_events.specs.Machine.{refusal, effect, after}
use Rattle.rev_events.specs.Refusal.{not_now}
use Rattle.rev_manifest.specs.Manifest.{ManifestValue}
use Rattle.rev_footprint.specs.Value as footprints
use Rattle.rev_footprint.specs.Value.{FootprintValue}
use Rattle.rev_footprint.specs.Footprint.{footprint}
use Rattle.rev_footprint.specs.Machine.{machine, table}
use Rattle.rev_footprint.proofs.Local.{table-local}
use Rattle.rev_graph.specs.Graph.{GraphValue}
use Rattle.rev_history.specs.declared.history.History.TheInside.{Inside}
use Rattle.rev_history.specs.Sound.{beside_of, timeline_of, CanPutBack, IsFootprintOf, HaveFootprints, StandBesideKept, IsSound}
use Rattle.rev_history.specs.Steps.{StepValue, Beside, step_at, footprint_in, footprint_beside, HasFootprints, print_of, values_of, prints_of}
use Rattle.rev_history.specs.Timeline.{Timeline, IsHistory, event_at, kept_events, kept_entries, last_of, state_at, is_among, depended_on, undo_refusal_of, undo_refusal, undone, without, placed, overtaken, redo_refusal_now, redo_refusal_of, redo_refusal, redone, accept_refusal, kept_footprint, nearest_conflict}
use Rattle.rev_history.specs.Value.{cells_written}
use Rattle.rev_history.proofs.BesideKept.{all_among, has_footprints, print_beside, stand_undone, stand_redone, stand_accepted}
use Rattle.rev_history.proofs.Commands.{IsFree, is_free, IsReady, is_ready}
use Rattle.rev_history.proofs.Effects.{set_all-is, length_stored}
use Rattle.rev_history.proofs.Footprints.{along_is, along_none, footprints_set, footprints_end}

pub history_of : (a : Inside) → IsSound a → IsHistory (timeline_of a)
history_of a s = record { rising = s.stepped.rising; accepted = s.stepped.each; legal = s.stepped.history.legal }

pub state_of : (a : Inside) → IsSound a → a.cells.state ≡ state_at (timeline_of a)
state_of a s = s.stepped.history.cells_are

pub as_many : (a : Inside) → IsSound a → length (beside_of a) ≡ length a.accepted.entries
as_many a s = sym (length-map (beside_of a) print_of) ∙ s.stepped.as_many_prints

-- the nearest above a number that conflicts with a footprint
pub found_above : (a : Inside) → IsSound a → (n : ℕ) (f : Footprint Cell) → nearest_in cell_cmp n f (chosen (prints_of a.accepted.entries (beside_of a)) a.kept.items) ≡ causal.nearest_above (machine a.graph.manifest a.opening.jobs) n f (kept_entries (timeline_of a))
found_above a s n f =
    kept_tables.found_above cells_total cells_exact (table a.graph.manifest a.opening.jobs) (table-local a.graph.manifest a.opening.jobs) a.opening.state a.cells.state (kept_events (timeline_of a))
    (chosen (prints_of a.accepted.entries (beside_of a)) a.kept.items) _ s.stepped.history n f

-- the nearest that depends on a kept number
pub found_dependent : (a : Inside) → IsSound a → (n : ℕ) (f : Footprint Cell) → is_among a.kept.items n ≡ true → causal.event_at n (prints_of a.accepted.entries (beside_of a)) ≡ Some f →
    nearest_in cell_cmp n f (chosen (prints_of a.accepted.entries (beside_of a)) a.kept.items) ≡ causal.nearest_to (machine a.graph.manifest a.opening.jobs) n (kept_entries (timeline_of a))
found_dependent a s n f among at =
    kept_tables.found_dependent cells_total cells_exact (table a.graph.manifest a.opening.jobs) (table-local a.graph.manifest a.opening.jobs) a.opening.state a.cells.state (kept_events (timeline_of a))
    (chosen (prints_of a.accepted.entries (beside_of a)) a.kept.items) _ s.stepped.history n f (event_at-chosen (prints_of a.accepted.entries (beside_of a)) a.kept.items n f among at)

-- the refusal of a kept event is that of its nearest dependent
pub undo_refusal_kept : (t : Timeline) (n : ℕ) (e : Event) (o : Option ℕ) → event_at t n ≡ Some e → is_among t.kept n ≡ true → o ≡ causal.nearest_to (machine t.manifest t.jobs) n (kept_entries t) → depended_on o ≡ undo_refusal t n
undo_refusal_kept t n e o at among is =
    ap depended_on is
    ∙ sym (ap (undo_refusal_of t n) at ∙ ap (λ b. cond b (depended_on (causal.nearest_to (machine t.manifest t.jobs) n (kept_entries t))) (Some NotKept)) among)

-- the refusal of an event that is not kept and is accepted now is that of the nearest in its way
pub redo_refusal_free : (t : Timeline) (n : ℕ) (e : Event) (o : Option ℕ) → event_at t n ≡ Some e → is_among t.kept n ≡ false → refusal t.manifest t.jobs (state_at t) e ≡ None → o ≡ causal.nearest_above (machine t.manifest t.jobs) n (footprints.print_of (footprint t.manifest (state_at t) e)) (kept_entries t) → overtaken o ≡ redo_refusal t n
redo_refusal_free t n e o at apart accepts is =
    ap overtaken is
    ∙ sym (ap (redo_refusal_of t n) at
    ∙ ap (λ b. cond b (Some AlreadyKept) (redo_refusal_now t n e (refusal t.manifest t.jobs (state_at t) e))) apart
    ∙ ap (redo_refusal_now t n e) accepts)

-- the same, as the code finds it: the footprint beside the number, and the nearest conflict with it
pub undo_refusal_found : (a : Inside) → IsSound a → (t : Timeline) → timeline_of a ≡ t → (n : ℕ) (f : FootprintValue) (ks : List ℕ) (steps : List Beside) →
    ks ≡ a.kept.items → is_among ks n ≡ true → steps ≡ (beside_of a) → Some f ≡ footprint_beside n a.accepted.entries steps →
    IsSome (event_at t n) → (o : Option ℕ) → o ≡ nearest_conflict n f t → depended_on o ≡ undo_refusal t n
undo_refusal_found a s t view n f ks steps kept among same_steps is some o found =
    let u : Timeline = timeline_of a in
    let e = some_is (event_at u n) (subst (λ (v : Timeline). IsSome (event_at v n)) (sym view) some) in
    let among_kept : is_among a.kept.items n ≡ true = ap (λ xs. is_among xs n) (sym kept) ∙ among in
    let print : causal.event_at n (prints_of a.accepted.entries (beside_of a)) ≡ Some (footprints.print_of f) =
    print_beside n a.accepted.entries (beside_of a) f (ap (λ xs. footprint_beside n a.accepted.entries xs) (sym same_steps) ∙ sym is) in
    undo_refusal_kept u n e.0 o e.1 among_kept
    (found ∙ ap (nearest_conflict n f) (sym view) ∙ sym (found_above a s n (footprints.print_of f)) ∙ found_dependent a s n (footprints.print_of f) among_kept print)
    ∙ ap (λ (v : Timeline). undo_refusal v n) view

-- the same for a redo
pub redo_refusal_found : (a : Inside) → IsSound a → (t : Timeline) → timeline_of a ≡ t → (n : ℕ) (e : Event) (f : FootprintValue) (ks : List ℕ) →
    ks ≡ a.kept.items → is_among ks n ≡ false → f ≡ footprint a.graph.manifest a.cells.state e →
    Some e ≡ event_at t n → None ≡ refusal a.graph.manifest a.cells.jobs a.cells.state e → (o : Option ℕ) → o ≡ nearest_conflict n f t → overtaken o ≡ redo_refusal t n
redo_refusal_found a s t view n e f ks kept apart is at accepts o found =
    let u : Timeline = timeline_of a in
    let now : a.cells.state ≡ state_at u = state_of a s in
    redo_refusal_free u n e o (ap (λ (v : Timeline). event_at v n) view ∙ sym at) (ap (λ xs. is_among xs n) (sym kept) ∙ apart)
    (ap₂ (λ j v. refusal a.graph.manifest j v e) (sym s.jobs) (sym now) ∙ sym accepts)
    (found ∙ ap (nearest_conflict n f) (sym view)
    ∙ ap (λ g. causal.nearest_above (machine a.graph.manifest a.opening.jobs) n (footprints.print_of g) (kept_entries u)) (is ∙ ap (λ v. footprint a.graph.manifest v e) now))
    ∙ ap (λ (v : Timeline). redo_refusal v n) view

-- why a redo is refused by the event itself
pub not_now_found : (a : Inside) → IsSound a → (t : Timeline) → timeline_of a ≡ t → (n : ℕ) (e : Event) (r : Refusal) (ks : List ℕ) →
    ks ≡ a.kept.items → is_among ks n ≡ false → Some e ≡ event_at t n → Some r ≡ refusal a.graph.manifest a.cells.jobs a.cells.state e → Some (not_now r) ≡ redo_refusal t n
not_now_found a s t view n e r ks kept apart at refused =
    let u : Timeline = timeline_of a in
    let now : a.cells.state ≡ state_at u = state_of a s in
    let is : accept_refusal u e ≡ Some r = ap₂ (λ j v. refusal a.graph.manifest j v e) (sym s.jobs) (sym now) ∙ sym refused in
    sym (ap (redo_refusal_of u n) (ap (λ (v : Timeline). event_at v n) view ∙ sym at)
    ∙ ap (λ b. cond b (Some AlreadyKept) (redo_refusal_now u n e (accept_refusal u e))) (ap (λ xs. is_among xs n) (sym kept) ∙ apart)
    ∙ ap (redo_refusal_now u n e) is)
    ∙ ap (λ (v : Timeline). redo_refusal v n) view

-- why an event is refused now
pub accept_refusal_found : (a : Inside) → IsSound a → (t : Timeline) → timeline_of a ≡ t → (e : Event) → refusal a.graph.manifest a.cells.jobs a.cells.state e ≡ accept_refusal t e
accept_refusal_found a s t view e =
    ap₂ (λ j v. refusal a.graph.manifest j v e) s.jobs (state_of a s) ∙ ap (λ (v : Timeline). accept_refusal v e) view

-- what stands beside the events, after one of them changed

all_get : {A : Type 0} (P : A → Type 0) (xs : List A) (i : ℕ) (d : A) → AllByRecursion P xs → i < length xs → P (get_or xs i d)
all_get P [] i d h lt = absurd (omega arith)
all_get P (x ∷ xs) zero d h lt = h.0
all_get P (x ∷ xs) (suc i) d h lt = all_get P xs i d h.1 (omega arith)

all_set : {A : Type 0} (P : A → Type 0) (xs : List A) (i : ℕ) (y : A) → AllByRecursion P xs → P y → AllByRecursion P (set xs i y)
all_set P [] i y h p = tt
all_set P (x ∷ xs) zero y h p = (p, h.1)
all_set P (x ∷ xs) (suc i) y h p = (h.0, all_set P xs i y h.1 p)

all_end : {A : Type 0} (P : A → Type 0) (xs : List A) (x : A) → AllByRecursion P xs → P x → AllByRecursion P (xs ++ x ∷ [])
all_end P [] x h p = (p, tt)
all_end P (y ∷ xs) x h p = (h.0, all_end P xs x h.1 p)

-- what stands beside an event, where anything does, can be put back
abbrev IsReadyBeside : Beside → Type 0
IsReadyBeside s = IfSome s CanPutBack

pub map_end : {A B : Type 0} (f : A → B) (xs : List A) (x : A) → map f (xs ++ x ∷ []) ≡ map f xs ++ f x ∷ []
map_end f [] x = refl
map_end f (y ∷ xs) x = ap (λ zs. f y ∷ zs) (map_end f xs x)

-- what can be put back of a place
pub ready_at : (a : Inside) → IsSound a → (n i : ℕ) (d : StepValue) → IsPlace n a.accepted.entries i → Some d ≡ get_or (beside_of a) i (Some d) → CanPutBack d
ready_at a s n i d place is =
    let lt : i < length a.accepted.entries = place_within n a.accepted.entries i place in
    let same : length (beside_of a) ≡ length a.accepted.entries = as_many a s in
    subst IsReadyBeside (sym is) (all_get IsReadyBeside (beside_of a) i (Some d) s.ready (omega arith))

-- of equal fields
same_beside : (es' : List (ℕ × Event)) (steps' : List Beside) (ks' : List ℕ) {es : List (ℕ × Event)} {steps : List Beside} {ks : List ℕ} → es' ≡ es → steps' ≡ steps → ks' ≡ ks → StandBesideKept es steps ks → StandBesideKept es' steps' ks'
same_beside es' steps' ks' {es} {steps} {ks} e s k h =
    subst (λ x. StandBesideKept x steps' ks') (sym e) (subst (λ x. StandBesideKept es x ks') (sym s) (subst (StandBesideKept es steps) (sym k) h))

-- beside an event that is not kept may stand any footprint
reprinted : (t : TableOf Cell Value Event Refusal cell_cmp) (opening cells : State) (es : List (ℕ × Event)) (ks : List ℕ) (fs : List (Footprint Cell)) (vs : List (List (Cell × Option Value))) (n i : ℕ) (f : Footprint Cell) → IsPlace n es i → is_among ks n ≡ false → IsStepped t opening cells es ks fs vs → IsStepped t opening cells es ks (set fs i f) vs
reprinted t opening cells es ks fs vs n i f place apart h = record {
  rising = h.rising;
  each = h.each;
  as_many_prints = length-set fs i f ∙ h.as_many_prints;
  as_many_values = h.as_many_values;
  history = record {
    rising = h.history.rising;
    legal = h.history.legal;
    cells_are = h.history.cells_are;
    footprints_are = chosen_other n es fs i f ks place apart ∙ h.history.footprints_are;
    replaced_are = h.history.replaced_are;
  };
}

-- what holds of fields that stand by the manifest and the jobs of others
sound_by : (a b : Inside) → b.graph ≡ a.graph → b.opening ≡ a.opening
    → IsStepped (table a.graph.manifest a.opening.jobs) b.opening.state b.cells.state b.accepted.entries b.kept.items (map print_of (beside_of b)) (map values_of (beside_of b))
    → HaveFootprints a.graph.manifest b.accepted.entries (beside_of b) → StandBesideKept b.accepted.entries (beside_of b) b.kept.items → AllByRecursion IsReadyBeside (beside_of b) → b.cells.jobs ≡ a.opening.jobs → b.last ≡ last_of b.accepted.entries → IsSound b
sound_by a b graph opening stepped own beside ready jobs last = record {
  stepped = subst₂ (λ (g : GraphValue) (r : Records). IsStepped (table g.manifest r.jobs) b.opening.state b.cells.state b.accepted.entries b.kept.items (map print_of (beside_of b)) (map values_of (beside_of b))) (sym graph) (sym opening) stepped;
  footprints = subst (λ (g : GraphValue). HaveFootprints g.manifest b.accepted.entries (beside_of b)) (sym graph) own;
  beside = beside;
  ready = ready;
  jobs = jobs ∙ ap (λ (r : Records). r.jobs) (sym opening);
  last = last;
}

-- an accepted event
pub accepted_sound : (a b : Inside) (n : ℕ) (e : Event) (step : StepValue) → IsSound a → last_of a.accepted.entries < n → refusal a.graph.manifest a.cells.jobs a.cells.state e ≡ None → b.graph ≡ a.graph → b.opening ≡ a.opening
    → b.accepted.entries ≡ a.accepted.entries ++ (n, e) ∷ [] → b.kept.items ≡ a.kept.items ++ n ∷ [] → (beside_of b) ≡ (beside_of a) ++ Some step ∷ []
    → step.footprint ≡ footprint a.graph.manifest a.cells.state e → values_of (Some step) ≡ replaced a.cells.state (effect a.graph.manifest a.cells.state e) → CanPutBack step
    → b.cells.state ≡ after a.graph.manifest a.cells.state e → b.cells.jobs ≡ a.cells.jobs → b.last ≡ n → IsSound b
accepted_sound a b n e step s lt accepts graph opening accepted kept steps print values ready state jobs last =
    let m : ManifestValue = a.graph.manifest in
    let f : Footprint Cell = footprints.print_of (footprint m a.cells.state e) in
    let ws : List (Cell × Option Value) = replaced a.cells.state (effect m a.cells.state e) in
    let accepts_now : refusal m a.opening.jobs a.cells.state e ≡ None = ap (λ j. refusal m j a.cells.state e) (sym s.jobs) ∙ accepts in
    let done : IsStepped (table m a.opening.jobs) a.opening.state (after m a.cells.state e) (a.accepted.entries ++ (n, e) ∷ []) (a.kept.items ++ n ∷ []) (map print_of (beside_of a) ++ f ∷ []) (map values_of (beside_of a) ++ ws ∷ []) =
    stepping.accept_stepped cells_total cells_exact (table m a.opening.jobs) (table-local m a.opening.jobs) a.opening.state a.cells.state a.accepted.entries a.kept.items (map print_of (beside_of a)) (map values_of (beside_of a)) s.stepped n e lt accepts_now in
    let prints_are : map print_of (beside_of b) ≡ map print_of (beside_of a) ++ f ∷ [] = ap (map print_of) steps ∙ map_end print_of (beside_of a) (Some step) ∙ ap (λ g. map print_of (beside_of a) ++ footprints.print_of g ∷ []) print in
    let values_are : map values_of (beside_of b) ≡ map values_of (beside_of a) ++ ws ∷ [] = ap (map values_of) steps ∙ map_end values_of (beside_of a) (Some step) ∙ ap (λ vs. map values_of (beside_of a) ++ vs ∷ []) values in
    sound_by a b graph opening
    (stepping.restepped (table m a.opening.jobs) _ _ _ _ _ _ _ _ _ _ _ _ done (ap (λ r. r.state) opening) state accepted kept prints_are values_are)
    (subst₂ (HaveFootprints m) (sym accepted) (sym steps) (footprints_end m a.accepted.entries (beside_of a) n (Some step) e s.footprints (as_many a s) (record { state = a.cells.state; is = print })))
    (same_beside b.accepted.entries (beside_of b) b.kept.items accepted steps kept (stand_accepted a.accepted.entries (beside_of a) a.kept.items s.beside n e step (as_many a s) lt))
    (subst (AllByRecursion IsReadyBeside) (sym steps) (all_end IsReadyBeside (beside_of a) (Some step) s.ready ready))
    (jobs ∙ s.jobs)
    (last ∙ sym (ap last_of accepted ∙ last_of-push a.accepted.entries n e lt))

-- an event that is taken out
pub record IsTakenOut (a b : Inside) (n : ℕ) : Type 0 where
  pub sound : IsSound b
  pub timeline : timeline_of b ≡ undone n (timeline_of a)
  pub writes : b.cells.writes ≡ raised_by (cells_written n (timeline_of a)) a.cells.writes

pub taken_out : (a b : Inside) (n i : ℕ) (d : StepValue) → IsSound a → IsPlace n a.accepted.entries i → undo_refusal (timeline_of a) n ≡ None → Some d ≡ get_or (beside_of a) i (Some d)
    → b.graph ≡ a.graph → b.opening ≡ a.opening → b.accepted.entries ≡ a.accepted.entries → b.last ≡ a.last → b.cells ≡ written_all a.cells d.replaced → (beside_of b) ≡ set (beside_of a) i None
    → b.kept.items ≡ without n a.kept.items → IsTakenOut a b n
taken_out a b n i d s place free is graph opening accepted last cells steps kept =
    let t : Timeline = timeline_of a in
    let m : ManifestValue = a.graph.manifest in
    let f : IsFree t n = is_free t n free in
    let lt : i < length (beside_of a) = let within : i < length a.accepted.entries = place_within n a.accepted.entries i place in let same : length (beside_of a) ≡ length a.accepted.entries = as_many a s in omega arith in
    let here : slice_get (map values_of (beside_of a)) i ≡ Some (values_of (Some d)) = slice_get-map values_of (beside_of a) i ∙ ap (option_map values_of) (slice_get-get_or (beside_of a) i (Some d) lt) ∙ ap (λ x. Some (values_of x)) (sym is) in
    let done : IsStepped (table m a.opening.jobs) a.opening.state _ a.accepted.entries (without n a.kept.items) (set (map print_of (beside_of a)) i (print_of None)) (set (map values_of (beside_of a)) i (values_of None)) =
    reprinted (table m a.opening.jobs) _ _ _ _ _ _ n i (print_of None) place (without-not_among n a.kept.items) (stepping.undo_stepped cells_total cells_exact (table m a.opening.jobs) (table-local m a.opening.jobs) a.opening.state a.cells.state a.accepted.entries a.kept.items (map print_of (beside_of a)) (map values_of (beside_of a)) s.stepped n i f.event (values_of (Some d)) (values_of None) place f.at f.among f.none here) in
    let prints_are : map print_of (beside_of b) ≡ set (map print_of (beside_of a)) i (print_of None) = ap (map print_of) steps ∙ map-set print_of (beside_of a) i None in
    let values_are : map values_of (beside_of b) ≡ set (map values_of (beside_of a)) i (values_of None) = ap (map values_of) steps ∙ map-set values_of (beside_of a) i None in
    let state : b.cells.state ≡ _ = ap (λ (c : Table). c.state) cells ∙ set_all-is a.cells.state d.replaced in
    let stored : causal.event_at n (replaced_by_number (table m a.opening.jobs) a.opening.state (kept_events t)) ≡ Some (values_of (Some d)) =
    ap (causal.event_at n) (sym s.stepped.history.replaced_are)
    ∙ event_at-chosen (causal.numbered_by a.accepted.entries (map values_of (beside_of a))) a.kept.items n (values_of (Some d)) f.among (beside_at n a.accepted.entries (map values_of (beside_of a)) i place ∙ here) in
    record {
      sound = sound_by a b graph opening
          (stepping.restepped (table m a.opening.jobs) _ _ _ _ _ _ _ _ _ _ _ _ done (ap (λ r. r.state) opening) state accepted kept prints_are values_are)
          (subst₂ (HaveFootprints m) (sym accepted) (sym steps) (footprints_set m a.accepted.entries (beside_of a) n i None f.event s.footprints place f.at tt))
          (same_beside b.accepted.entries (beside_of b) b.kept.items accepted steps kept (stand_undone a.accepted.entries (beside_of a) a.kept.items s.beside n i place lt))
          (subst (AllByRecursion IsReadyBeside) (sym steps) (all_set IsReadyBeside (beside_of a) i None s.ready tt))
          (ap (λ (c : Table). c.jobs) cells ∙ s.jobs)
          (last ∙ s.last ∙ ap last_of (sym accepted));
      timeline = λ j. record { manifest = (graph j).manifest; jobs = (opening j).jobs; opening = (opening j).state; accepted = accepted j; kept = kept j };
      writes = ap (λ (c : Table). c.writes) cells
          ∙ ap (λ k. raised_by k a.cells.writes) (sym (length_stored d.replaced) ∙ kept_tables.as_many_written cells_total cells_exact (table m a.opening.jobs) (table-local m a.opening.jobs) n a.opening.state (kept_events t) (values_of (Some d)) stored);
    }

-- an event that is put in
pub record IsPutIn (a b : Inside) (n : ℕ) : Type 0 where
  pub sound : IsSound b
  pub timeline : timeline_of b ≡ redone n (timeline_of a)

pub put_in : (a b : Inside) (n i : ℕ) (e : Event) (step : StepValue) → IsSound a → IsPlace n a.accepted.entries i → causal.event_at n a.accepted.entries ≡ Some e → redo_refusal (timeline_of a) n ≡ None
    → b.graph ≡ a.graph → b.opening ≡ a.opening → b.accepted.entries ≡ a.accepted.entries → b.last ≡ a.last → (beside_of b) ≡ set (beside_of a) i (Some step)
    → step.footprint ≡ footprint a.graph.manifest a.cells.state e → values_of (Some step) ≡ replaced a.cells.state (effect a.graph.manifest a.cells.state e) → CanPutBack step
    → b.cells.state ≡ after a.graph.manifest a.cells.state e → b.cells.jobs ≡ a.cells.jobs → b.kept.items ≡ placed n a.kept.items → IsPutIn a b n
put_in a b n i e step s place at free graph opening accepted last steps print values ready state jobs kept =
    let t : Timeline = timeline_of a in
    let m : ManifestValue = a.graph.manifest in
    let g : Footprint Cell = footprints.print_of (footprint m a.cells.state e) in
    let ws : List (Cell × Option Value) = replaced a.cells.state (effect m a.cells.state e) in
    let r : IsReady t n = is_ready t n free in
    let one : Some r.event ≡ Some e = sym r.at ∙ at in
    let same : r.event ≡ e = cc in
    let lt : i < length (beside_of a) = let within : i < length a.accepted.entries = place_within n a.accepted.entries i place in let many : length (beside_of a) ≡ length a.accepted.entries = as_many a s in omega arith in
    let now : state_at t ≡ a.cells.state = sym (state_of a s) in
    let accepts : refusal m a.opening.jobs a.cells.state e ≡ None = ap₂ (refusal m a.opening.jobs) (sym now) (sym same) ∙ r.accepts in
    let none : causal.nearest_above (machine m a.opening.jobs) n g (kept_entries t) ≡ None = ap₂ (λ u x. causal.nearest_above (machine m a.opening.jobs) n (footprints.print_of (footprint m u x)) (kept_entries t)) (sym now) (sym same) ∙ r.none in
    let done : IsStepped (table m a.opening.jobs) a.opening.state (after m a.cells.state e) a.accepted.entries (placed n a.kept.items) (set (map print_of (beside_of a)) i g) (set (map values_of (beside_of a)) i ws) =
    stepping.redo_stepped cells_total cells_exact (table m a.opening.jobs) (table-local m a.opening.jobs) a.opening.state a.cells.state a.accepted.entries a.kept.items (map print_of (beside_of a)) (map values_of (beside_of a)) s.stepped n i e place at r.apart accepts none in
    let prints_are : map print_of (beside_of b) ≡ set (map print_of (beside_of a)) i g = ap (map print_of) steps ∙ map-set print_of (beside_of a) i (Some step) ∙ ap (λ f. set (map print_of (beside_of a)) i (footprints.print_of f)) print in
    let values_are : map values_of (beside_of b) ≡ set (map values_of (beside_of a)) i ws = ap (map values_of) steps ∙ map-set values_of (beside_of a) i (Some step) ∙ ap (set (map values_of (beside_of a)) i) values in
    record {
      sound = sound_by a b graph opening
          (stepping.restepped (table m a.opening.jobs) _ _ _ _ _ _ _ _ _ _ _ _ done (ap (λ r. r.state) opening) state accepted kept prints_are values_are)
          (subst₂ (HaveFootprints m) (sym accepted) (sym steps) (footprints_set m a.accepted.entries (beside_of a) n i (Some step) e s.footprints place at (record { state = a.cells.state; is = print })))
          (same_beside b.accepted.entries (beside_of b) b.kept.items accepted steps kept (stand_redone a.accepted.entries (beside_of a) a.kept.items s.beside n i step place lt))
          (subst (AllByRecursion IsReadyBeside) (sym steps) (all_set IsReadyBeside (beside_of a) i (Some step) s.ready ready))
          (jobs ∙ s.jobs)
          (last ∙ s.last ∙ ap last_of (sym accepted));
      timeline = λ j. record { manifest = (graph j).manifest; jobs = (opening j).jobs; opening = (opening j).state; accepted = accepted j; kept = kept j };
    }

-- the same history in fields with more room
pub same_sound : (a b : Inside) → IsSound a → b.graph ≡ a.graph → b.opening ≡ a.opening → b.accepted.entries ≡ a.accepted.entries → (beside_of b) ≡ (beside_of a) → b.kept.items ≡ a.kept.items → b.cells.state ≡ a.cells.state → b.cells.jobs ≡ a.cells.jobs → b.last ≡ a.last → IsSound b
same_sound a b s graph opening accepted steps kept state jobs last =
    sound_by a b graph opening
    (stepping.restepped (table a.graph.manifest a.opening.jobs) _ _ _ _ _ _ _ _ _ _ _ _ s.stepped (ap (λ r. r.state) opening) state accepted kept (ap (map print_of) steps) (ap (map values_of) steps))
    (subst₂ (HaveFootprints a.graph.manifest) (sym accepted) (sym steps) s.footprints)
    (same_beside b.accepted.entries (beside_of b) b.kept.items accepted steps kept s.beside)
    (subst (AllByRecursion IsReadyBeside) (sym steps) s.ready)
    (jobs ∙ s.jobs)
    (last ∙ s.last ∙ ap last_of (sym accepted))

-- a number that has an event has an index
pub has_index : (a : Inside) (n : ℕ) (e : Event) → event_at (timeline_of a) n ≡ Some e → false ≡ is_some (lookup (nat_eq n) a.accepted.entries) → ⊥
has_index a n e at none = true≢false (sym (none ∙ ap is_some (lookup-event_at n a.accepted.entries ∙ at)))

-- kept numbers have footprints
pub all_footprints : (a : Inside) → IsSound a → HasFootprints a.accepted.entries (beside_of a) a.kept.items
all_footprints a s = has_footprints a.accepted.entries (beside_of a) a.kept.items s.beside (as_many a s) s.stepped.each

pub has_print : (a : Inside) → IsSound a → (n : ℕ) → is_among a.kept.items n ≡ true → None ≡ footprint_beside n a.accepted.entries (beside_of a) → ⊥
has_print a s n among none =
    true≢false (sym (all_among (λ k. IsSome (footprint_beside k a.accepted.entries (beside_of a))) a.kept.items n (all_footprints a s) among) ∙ ap is_some (sym none))

-- and a step
pub has_step : (a : Inside) → IsSound a → (n i : ℕ) (o : Beside) → is_among a.kept.items n ≡ true → IsPlace n a.accepted.entries i → o ≡ get_or (beside_of a) i o → None ≡ o → ⊥
has_step a s n i o among place is none =
    let within : i < length a.accepted.entries = place_within n a.accepted.entries i place in
    let same : length (beside_of a) ≡ length a.accepted.entries = as_many a s in
    let lt : i < length (beside_of a) = omega arith in
    let here : step_at n a.accepted.entries (beside_of a) ≡ Some o = beside_at n a.accepted.entries (beside_of a) i place ∙ slice_get-get_or (beside_of a) i o lt ∙ ap Some (sym is) in
    true≢false (sym (s.beside n o here ∙ among) ∙ ap is_some (sym none))

-- what stands beside an event is a footprint of its own
own_footprint : (m : ManifestValue) (es : List (ℕ × Event)) (steps : List Beside) (n : ℕ) (f : FootprintValue) (e : Event) → HaveFootprints m es steps → Some f ≡ footprint_beside n es steps → causal.event_at n es ≡ Some e → IsFootprintOf m e f
own_footprint m [] steps n f e h is at = cc
own_footprint m (x ∷ xs) [] n f e h is at = cc
own_footprint m (x ∷ xs) (s ∷ steps) n f e h is at = elim (either (nat_eq x.0 n)) [
  | inl t ↦
      let one : Some x.1 ≡ Some e = sym (ap (λ b. cond b (Some x.1) (causal.event_at n xs)) t) ∙ at in
      let same : x.1 ≡ e = cc in
      by s e (subst (λ y. IfSome s (λ z. IsFootprintOf m y z.footprint)) same h.0) (is ∙ ap (λ b. footprint_in (cond b (Some s) (step_at n xs steps))) t)
  | inr o ↦
      own_footprint m xs steps n f e h.1 (is ∙ ap (λ b. footprint_in (cond b (Some s) (step_at n xs steps))) o) (sym (ap (λ b. cond b (Some x.1) (causal.event_at n xs)) o) ∙ at)
]
  where
    by : (o : Beside) (y : Event) → IfSome o (λ z. IsFootprintOf m y z.footprint) → Some f ≡ footprint_in (Some o) → IsFootprintOf m y f
    by None y own h = cc
    by (Some z) y own h = let print : f ≡ z.footprint = cc in subst (IsFootprintOf m y) (sym print) own

-- what stands beside a kept number is the footprint of its place
pub kept_print : (a : Inside) → IsSound a → (t : Timeline) → timeline_of a ≡ t → (n : ℕ) (f : FootprintValue) (ks : List ℕ) (steps : List Beside) → ks ≡ a.kept.items → is_among ks n ≡ true → steps ≡ (beside_of a)
    → Some f ≡ footprint_beside n a.accepted.entries steps → Some f ≡ kept_footprint t n
kept_print a s t view n f ks steps kept among_ks same_steps is_steps =
    let u : Timeline = timeline_of a in
    let m : ManifestValue = a.graph.manifest in
    let among : is_among a.kept.items n ≡ true = ap (λ xs. is_among xs n) (sym kept) ∙ among_ks in
    let is : Some f ≡ footprint_beside n a.accepted.entries (beside_of a) = is_steps ∙ ap (λ xs. footprint_beside n a.accepted.entries xs) same_steps in
    let e = accepted_among a.accepted.entries a.kept.items n s.stepped.each among in
    let print : causal.event_at n (causal.footprints_by_number (machine m a.opening.jobs) a.opening.state (kept_events u)) ≡ Some (footprints.print_of f) =
    ap (causal.event_at n) (sym s.stepped.history.footprints_are)
    ∙ event_at-chosen (prints_of a.accepted.entries (beside_of a)) a.kept.items n (footprints.print_of f) among (print_beside n a.accepted.entries (beside_of a) f (sym is)) in
    sym (along_is m a.opening.jobs a.opening.state (kept_events u) n e.0 f (own_footprint m a.accepted.entries (beside_of a) n f e.0 s.footprints is e.1) (event_at-chosen a.accepted.entries a.kept.items n e.0 among e.1) print)
    ∙ ap (λ (v : Timeline). kept_footprint v n) view

-- what is found there
pub print_found : (a : Inside) → IsSound a → (t : Timeline) → timeline_of a ≡ t → (n : ℕ) (ks : List ℕ) (steps : List Beside) → ks ≡ a.kept.items → is_among ks n ≡ true → steps ≡ (beside_of a)
    → footprint_beside n a.accepted.entries steps ≡ kept_footprint t n
print_found a s t view n ks steps kept among same_steps =
    by (footprint_beside n a.accepted.entries steps) refl
  where
    by : (o : Option FootprintValue) → footprint_beside n a.accepted.entries steps ≡ o → footprint_beside n a.accepted.entries steps ≡ kept_footprint t n
    by None none =
        absurd (has_print a s n (ap (λ xs. is_among xs n) (sym kept) ∙ among) (sym none ∙ ap (λ xs. footprint_beside n a.accepted.entries xs) same_steps))
    by (Some f) some = some ∙ kept_print a s t view n f ks steps kept among same_steps (sym some)

-- and a number that is not kept has none
pub no_print : (a : Inside) (t : Timeline) → timeline_of a ≡ t → (n : ℕ) (ks : List ℕ) → ks ≡ a.kept.items → is_among ks n ≡ false → None ≡ kept_footprint t n
no_print a t view n ks kept apart =
    sym (along_none a.graph.manifest a.opening.jobs a.opening.state (kept_events (timeline_of a)) n (event_at-not_chosen a.accepted.entries a.kept.items n (ap (λ xs. is_among xs n) (sym kept) ∙ apart)))
    ∙ ap (λ (v : Timeline). kept_footprint v n) view
