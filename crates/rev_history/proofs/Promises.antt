-- The laws of histories.
use Rattle.std.proofs.Common.{◌≡◌, ℕ, ◌-◌, ◌<◌, ◌≤◌, true, cond, List, [], ◌∷◌, ◌++◌, Option, None, Some, length, slice_get, refl, sym, ap, ap₂, subst, ◌∙◌, inl, inr, arith, suc}
use Rattle.std.specs.List.{AllByRecursion}
use Rattle.rev_causal.specs.Machine.{run}
use Rattle.rev_causal.specs.Entries.{entries}
use Rattle.rev_causal.specs.History as causal
use Rattle.rev_causal.specs.Laws.{IsLeastDependent, IsLeastCone}
use Rattle.rev_causal.proofs.ByNumber as by_number
use Rattle.rev_causal.proofs.Chosen.{all_below, chosen-rises, event_at-chosen, event_at-not_chosen, without-last, placed-without, without-not_among, accepted_among, chosen-front}
use Rattle.rev_causal.proofs.Laws as theory
use Rattle.rev_causal.proofs.Runs.{either}
use Rattle.rev_events.specs.declared.event.Event.{Event}
use Rattle.rev_events.specs.declared.refusal.Refusal.{Refusal}
use Rattle.rev_events.specs.declared.refusal.Refusal.TheVariants.{NotKept, DependedOn, AlreadyKept, Overtaken}
use Rattle.rev_events.specs.Machine.{refusal, after}
use Rattle.rev_footprint.specs.Value.{print_of}
use Rattle.rev_footprint.specs.Footprint.{footprint}
use Rattle.rev_footprint.proofs.Local.{machine-local}
use Rattle.rev_history.specs.Laws.{DependsOn, StepBack, UndoExactlyWhenIndependent, NearestIsNamed, UndoLeavesTheOthers, RedoNextRestores, RedoRunsNow, OvertakingIsNamed, UndoKeepsFootprints, RedoKeepsFootprints, GreatestIsGreatest, ConeIsLeast}
use Rattle.rev_history.specs.Timeline.{Timeline, IsHistory, IsRising, machine_at, event_at, chosen, kept_events, kept_entries, state_at, is_among, without, placed, depended_on, undo_refusal_of, undone, overtaken, redo_refusal_now, redo_refusal_of, accept_refusal, footprints_along}
use Rattle.rev_history.proofs.Commands.{IsFree, is_free, free_undo, IsReady, is_ready, ready_redo, kept_undone, kept_redone, undone_by, redone_by, undone_history, redone_history, EndsIn, ends_in, below_last}
use Rattle.rev_history.proofs.Footprints.{along-without, along-put}
use Rattle.rev_history.proofs.Cones.{some_kept, coned_history}

-- a step back

last_pushed : (ks : List ℕ) (n : ℕ) → slice_get (ks ++ n ∷ []) (length (ks ++ n ∷ []) - 1) ≡ Some n
last_pushed [] n = refl
last_pushed (k ∷ []) n = refl
last_pushed (k ∷ j ∷ ks) n =
    let next : length (k ∷ j ∷ ks ++ n ∷ []) - 1 ≡ suc (length (j ∷ ks ++ n ∷ []) - 1) = omega arith in
    ap (slice_get (k ∷ j ∷ ks ++ n ∷ [])) next ∙ last_pushed (j ∷ ks) n

pub step_back : StepBack
step_back t n e h lt accepts =
    let below : AllByRecursion (λ k. k < n) t.kept = all_below t.accepted t.kept n lt h.accepted in
    let kept : without n (t.kept ++ n ∷ []) ≡ t.kept = without-last t.kept n below in
    record {
      greatest = last_pushed t.kept n;
      kept = kept;
      state = ap (λ ks. run (machine_at t) t.opening (chosen (t.accepted ++ (n, e) ∷ []) ks)) kept ∙ ap (run (machine_at t) t.opening) (chosen-front t.accepted t.kept n e below);
    }

-- what depends on an event

least_of : (t : Timeline) (n m : ℕ) (e : Event) → IsHistory t → is_among t.kept n ≡ true → event_at t n ≡ Some e → causal.nearest_to (machine_at t) n (kept_entries t) ≡ Some m → IsLeastDependent (machine_at t) t.opening (kept_events t) n m
least_of t n m e h among at found =
    theory.nearest_is_least (machine_at t) t.opening n e (kept_events t) m (chosen-rises t.accepted t.kept h.rising)
    (event_at-chosen t.accepted t.kept n e among at) found

some_event : (t : Timeline) (n : ℕ) → IsHistory t → is_among t.kept n ≡ true → (e : Event) × (event_at t n ≡ Some e)
some_event t n h among = accepted_among t.accepted t.kept n h.accepted among

pub undo_exactly_when_independent : UndoExactlyWhenIndependent
undo_exactly_when_independent t n h = (
  λ free. let f : IsFree t n = is_free t n free in
      (f.among, λ m d. (by_number.nearest_is_none (machine_at t) t.opening n f.event (kept_events t) (chosen-rises t.accepted t.kept h.rising) (event_at-chosen t.accepted t.kept n f.event f.among f.at)).0 f.none d.one d.other d.of_n d.later d.conflicts),
  λ k. let e = some_event t n h k.0 in
      free_undo t n (record { event = e.0; at = e.1; among = k.0; none = by e.0 e.1 k.0 k.1 (causal.nearest_to (machine_at t) n (kept_entries t)) refl }),
)
  where
    by : (e : Event) → event_at t n ≡ Some e → is_among t.kept n ≡ true → ((m : ℕ) → DependsOn t m n → ⊥) → (o : Option ℕ) → causal.nearest_to (machine_at t) n (kept_entries t) ≡ o → causal.nearest_to (machine_at t) n (kept_entries t) ≡ None
    by e at among none None found = found
    by e at among none (Some m) found =
        let l : IsLeastDependent (machine_at t) t.opening (kept_events t) n m = least_of t n m e h among at found in
        absurd (none m (record { one = l.one; other = l.other; of_n = l.of_n; of_m = l.of_k; later = l.later; conflicts = l.conflicts }))

dependent_is : (m : ℕ) (o : Option ℕ) → depended_on o ≡ Some (DependedOn m) → o ≡ Some m
dependent_is m None h = cc
dependent_is m (Some k) h = let same : k ≡ m = cc in ap Some same

named_by : (t : Timeline) (n m : ℕ) → IsHistory t → (o : Option Event) → event_at t n ≡ o → undo_refusal_of t n o ≡ Some (DependedOn m) → IsLeastDependent (machine_at t) t.opening (kept_events t) n m
named_by t n m h None at refused = cc
named_by t n m h (Some e) at refused = elim (either (is_among t.kept n)) [
  | inl among ↦ least_of t n m e h among at (dependent_is m _ (sym (ap (λ b. cond b (depended_on (causal.nearest_to (machine_at t) n (kept_entries t))) (Some NotKept)) among) ∙ refused))
  | inr other ↦
      let never : Some NotKept ≡ Some (DependedOn m) = sym (ap (λ b. cond b (depended_on (causal.nearest_to (machine_at t) n (kept_entries t))) (Some NotKept)) other) ∙ refused in
      cc
]

pub nearest_is_named : NearestIsNamed
nearest_is_named t n m h refused = named_by t n m h (event_at t n) refl refused

pub undo_leaves_the_others : UndoLeavesTheOthers
undo_leaves_the_others t n h free = undone_history t n h free

-- redo

pub redo_next_restores : RedoNextRestores
redo_next_restores t n h free =
    let f : IsFree t n = is_free t n free in
    let u = undone_by t n h f in
    let is : kept_events (undone n t) ≡ causal.without n (kept_events t) = kept_undone t n h in
    let same : state_at (undone n t) ≡ run (machine_at t) t.opening (causal.without n (kept_events t)) = ap (run (machine_at t) t.opening) is in
    let back : placed n (without n t.kept) ≡ t.kept = placed-without n t.kept h.rising f.among in (
      ready_redo (undone n t) n (record {
        event = f.event;
        at = f.at;
        apart = without-not_among n t.kept;
        accepts = ap (λ s. refusal t.manifest t.jobs s f.event) same ∙ u.again;
        none = ap₂ (λ s xs. causal.nearest_above (machine_at t) n (print_of (footprint t.manifest s f.event)) (entries (machine_at t) t.opening xs)) same is ∙ u.nothing_in_the_way;
      }),
      ap (λ ks. record t { kept = ks }) back,
    )

pub redo_runs_now : RedoRunsNow
redo_runs_now t n e h at free =
    let r : IsReady t n = is_ready t n free in
    let same_event : Some r.event ≡ Some e = sym r.at ∙ at in
    let same : r.event ≡ e = cc in (
      redone_history t n h free,
      ap (run (machine_at t) t.opening) (kept_redone t n r.event h r.apart r.at) ∙ (redone_by t n h r).result ∙ ap (after t.manifest (state_at t)) same,
    )

overtaken_is : (m : ℕ) (o : Option ℕ) → overtaken o ≡ Some (Overtaken m) → o ≡ Some m
overtaken_is m None h = cc
overtaken_is m (Some k) h = let same : k ≡ m = cc in ap Some same

overtaken_now : (t : Timeline) (n m : ℕ) (e : Event) (o : Option Refusal) → redo_refusal_now t n e o ≡ Some (Overtaken m) → causal.nearest_above (machine_at t) n (print_of (footprint t.manifest (state_at t) e)) (kept_entries t) ≡ Some m
overtaken_now t n m e None h = overtaken_is m _ h
overtaken_now t n m e (Some r) h = cc

pub overtaking_is_named : OvertakingIsNamed
overtaking_is_named t n m e h at refused =
    let of_event : redo_refusal_of t n (Some e) ≡ Some (Overtaken m) = sym (ap (redo_refusal_of t n) at) ∙ refused in
    elim (either (is_among t.kept n)) [
      | inl among ↦
          let never : Some AlreadyKept ≡ Some (Overtaken m) = sym (ap (λ b. cond b (Some AlreadyKept) (redo_refusal_now t n e (accept_refusal t e))) among) ∙ of_event in
          cc
      | inr apart ↦
          by_number.first_above_is_least (machine_at t) t.opening n (print_of (footprint t.manifest (state_at t) e)) (kept_events t) m (chosen-rises t.accepted t.kept h.rising)
          (overtaken_now t n m e (accept_refusal t e) (sym (ap (λ b. cond b (Some AlreadyKept) (redo_refusal_now t n e (accept_refusal t e))) apart) ∙ of_event))
    ]

-- footprints

pub undo_keeps_footprints : UndoKeepsFootprints
undo_keeps_footprints t n m h free other =
    let f : IsFree t n = is_free t n free in
    let rises : causal.IsRising (kept_events t) = chosen-rises t.accepted t.kept h.rising in
    ap (λ es. causal.event_at m (footprints_along t.manifest t.opening es)) (kept_undone t n h)
    ∙ along-without t.manifest t.jobs t.opening n f.event (kept_events t) rises h.legal (event_at-chosen t.accepted t.kept n f.event f.among f.at) f.none m other

pub redo_keeps_footprints : RedoKeepsFootprints
redo_keeps_footprints t n m h free other =
    let r : IsReady t n = is_ready t n free in
    let rises : causal.IsRising (kept_events t) = chosen-rises t.accepted t.kept h.rising in
    ap (λ es. causal.event_at m (footprints_along t.manifest t.opening es)) (kept_redone t n r.event h r.apart r.at)
    ∙ along-put t.manifest t.jobs t.opening n r.event (kept_events t) rises h.legal (event_at-not_chosen t.accepted t.kept n r.apart) r.accepts r.none m other

-- the greatest

all_at_most : (n : ℕ) (xs : List ℕ) → AllByRecursion (λ k. k < n) xs → AllByRecursion (λ k. k ≤ n) (xs ++ n ∷ [])
all_at_most n [] h = (omega arith, tt)
all_at_most n (x ∷ xs) h = (let lt : x < n = h.0 in omega arith, all_at_most n xs h.1)

pub greatest_is_greatest : GreatestIsGreatest
greatest_is_greatest t n h last =
    let e : EndsIn t.kept n = ends_in t.kept n last in
    subst (AllByRecursion (λ k. k ≤ n)) (sym e.is) (all_at_most n e.front (below_last e.front n (subst IsRising e.is h.rising)))

-- cones

pub cone_is_least : ConeIsLeast
cone_is_least t n h free =
    let e = some_kept t n free in
    let least : IsLeastCone (machine_at t) t.opening (kept_events t) n =
    by_number.cone_is_least (machine_at t) (machine-local t.manifest t.jobs) t.opening n e.event (kept_events t) (chosen-rises t.accepted t.kept h.rising) h.legal (event_at-chosen t.accepted t.kept n e.event e.among e.at) in
    (least, coned_history t n h)
