-- What undo, redo, accept and back make of a history.
use Rattle.std.proofs.Common.{◌≡◌, ℕ, ◌-◌, ◌<◌, Bool, true, false, cond, List, [], ◌∷◌, ◌++◌, ◌||◌, Option, None, Some, IsSome, slice_get, length, refl, sym, ap, subst, ◌∙◌, inl, inr, eq-eqb, ne_eqb, arith, suc}
use Rattle.std.specs.Prelude.{nat_eq}
use Rattle.std.specs.List.{AllByRecursion}
use Rattle.rev_causal.specs.Machine.{Machine, Legal, run, footprints}
use Rattle.rev_causal.specs.Entries.{Entry, entries, clash}
use Rattle.rev_causal.specs.Order.{nearest}
use Rattle.rev_causal.specs.History as causal
use Rattle.rev_causal.proofs.Runs
use Rattle.rev_causal.proofs.Runs.{either}
use Rattle.rev_causal.proofs.Numbers as by_number
use Rattle.rev_events.specs.declared.event.Event.{Event}
use Rattle.rev_events.specs.declared.refusal.Refusal.{Refusal}
use Rattle.rev_events.specs.declared.refusal.Refusal.TheVariants.{NotKept, AlreadyKept}
use Rattle.rev_events.specs.Machine.{refusal, after}
use Rattle.rev_footprint.specs.Value.{print_of}
use Rattle.rev_footprint.specs.Footprint.{footprint}
use Rattle.rev_footprint.proofs.Local.{machine-local}
use Rattle.rev_history.specs.Timeline.{Timeline, IsHistory, machine_at, IsRising, event_at, under, chosen, kept_events, kept_entries, state_at, last_of, is_among, without, placed, depended_on, undo_refusal_of, undo_refusal, undone, overtaken, redo_refusal_now, redo_refusal_of, redo_refusal, redone, accept_refusal, accepted_as, greatest_kept}
use Rattle.rev_causal.proofs.Chosen.{AllAccepted, All-filter, All-placed, IsRising-push, IsRising-filter, IsRising-placed, AllAccepted-push, all_below, some_is, chosen-push, chosen-rises, chosen-without, chosen-placed, event_at-chosen, event_at-not_chosen}

-- accept

pub accepted_history : (t : Timeline) (n : ℕ) (e : Event) → IsHistory t → last_of t.accepted < n → accept_refusal t e ≡ None → IsHistory (accepted_as n e t)
accepted_history t n e h lt acc =
    let below : AllByRecursion (λ k. k < n) t.kept = all_below t.accepted t.kept n lt h.accepted in
    record {
      rising = IsRising-push t.kept n h.rising below;
      accepted = AllAccepted-push t.accepted t.kept n e lt below h.accepted;
      legal = subst (Legal (machine_at t) t.opening) (sym (chosen-push t.accepted t.kept n e lt below)) (Runs.legal_join (machine_at t) t.opening (kept_events t) ((n, e) ∷ []) h.legal (acc, tt));
    }

accepted_events : (t : Timeline) (n : ℕ) (e : Event) → IsHistory t → last_of t.accepted < n → kept_events (accepted_as n e t) ≡ kept_events t ++ (n, e) ∷ []
accepted_events t n e h lt = chosen-push t.accepted t.kept n e lt (all_below t.accepted t.kept n lt h.accepted)

pub accepted_state : (t : Timeline) (n : ℕ) (e : Event) → IsHistory t → last_of t.accepted < n → state_at (accepted_as n e t) ≡ after t.manifest (state_at t) e
accepted_state t n e h lt = ap (run (machine_at t) t.opening) (accepted_events t n e h lt) ∙ Runs.run-append (machine_at t) t.opening (kept_events t) ((n, e) ∷ [])

pub accepted_footprints : (t : Timeline) (n : ℕ) (e : Event) → IsHistory t → last_of t.accepted < n → footprints (machine_at t) t.opening (kept_events (accepted_as n e t)) ≡ footprints (machine_at t) t.opening (kept_events t) ++ print_of (footprint t.manifest (state_at t) e) ∷ []
accepted_footprints t n e h lt = ap (footprints (machine_at t) t.opening) (accepted_events t n e h lt) ∙ Runs.footprints-append (machine_at t) t.opening (kept_events t) ((n, e) ∷ [])

-- undo

-- what it says that an undo is not refused
pub record IsFree (t : Timeline) (n : ℕ) : Type 0 where
  pub event : Event
  pub at : event_at t n ≡ Some event
  pub among : is_among t.kept n ≡ true
  pub none : causal.nearest_to (machine_at t) n (kept_entries t) ≡ None

no_dependent : (o : Option ℕ) → depended_on o ≡ None → o ≡ None
no_dependent None h = refl
no_dependent (Some m) h = cc

free_by : (t : Timeline) (n : ℕ) (o : Option Event) → event_at t n ≡ o → undo_refusal_of t n o ≡ None → IsFree t n
free_by t n None at h = cc
free_by t n (Some e) at h = elim (either (is_among t.kept n)) [
  | inl among ↦ record {
    event = e;
    at = at;
    among = among;
    none = no_dependent _ (sym (ap (λ b. cond b (depended_on (causal.nearest_to (machine_at t) n (kept_entries t))) (Some NotKept)) among) ∙ h);
  }
  | inr other ↦
      let never : Some NotKept ≡ None = sym (ap (λ b. cond b (depended_on (causal.nearest_to (machine_at t) n (kept_entries t))) (Some NotKept)) other) ∙ h in
      cc
]

pub is_free : (t : Timeline) (n : ℕ) → undo_refusal t n ≡ None → IsFree t n
is_free t n h = free_by t n (event_at t n) refl h

-- and that it is not refused
pub free_undo : (t : Timeline) (n : ℕ) → IsFree t n → undo_refusal t n ≡ None
free_undo t n f =
    ap (undo_refusal_of t n) f.at
    ∙ ap (λ b. cond b (depended_on (causal.nearest_to (machine_at t) n (kept_entries t))) (Some NotKept)) f.among
    ∙ ap depended_on f.none

-- what the theory of undo says of it
pub undone_by : (t : Timeline) (n : ℕ) (h : IsHistory t) (f : IsFree t n) → causal.Undone (machine_at t) t.opening (kept_events t) n f.event
undone_by t n h f =
    by_number.undone (machine_at t) (machine-local t.manifest t.jobs) t.opening n f.event (kept_events t) (chosen-rises t.accepted t.kept h.rising)
    (event_at-chosen t.accepted t.kept n f.event f.among f.at) h.legal f.none

pub kept_undone : (t : Timeline) (n : ℕ) → IsHistory t → kept_events (undone n t) ≡ causal.without n (kept_events t)
kept_undone t n h = chosen-without t.accepted t.kept n h.rising h.accepted

pub undone_history : (t : Timeline) (n : ℕ) → IsHistory t → undo_refusal t n ≡ None → IsHistory (undone n t)
undone_history t n h free = record {
  rising = IsRising-filter _ t.kept h.rising;
  accepted = All-filter _ _ t.kept h.accepted;
  legal = subst (Legal (machine_at t) t.opening) (sym (kept_undone t n h)) (undone_by t n h (is_free t n free)).legal;
}

pub undone_kept : (t : Timeline) (n : ℕ) (ks : List ℕ) → IsHistory t → undo_refusal t n ≡ None → ks ≡ without n t.kept → IsHistory (record t { kept = ks })
undone_kept t n ks h free is = subst (λ (xs : List ℕ). IsHistory (record t { kept = xs })) (sym is) (undone_history t n h free)

-- redo

-- what it says that a redo is not refused
pub record IsReady (t : Timeline) (n : ℕ) : Type 0 where
  pub event : Event
  pub at : event_at t n ≡ Some event
  pub apart : is_among t.kept n ≡ false
  pub accepts : refusal t.manifest t.jobs (state_at t) event ≡ None
  pub none : causal.nearest_above (machine_at t) n (print_of (footprint t.manifest (state_at t) event)) (kept_entries t) ≡ None

not_overtaken : (o : Option ℕ) → overtaken o ≡ None → o ≡ None
not_overtaken None h = refl
not_overtaken (Some m) h = cc

ready_now : (t : Timeline) (n : ℕ) (e : Event) (o : Option Refusal) → redo_refusal_now t n e o ≡ None → (o ≡ None) × (causal.nearest_above (machine_at t) n (print_of (footprint t.manifest (state_at t) e)) (kept_entries t) ≡ None)
ready_now t n e None h = (refl, not_overtaken _ h)
ready_now t n e (Some r) h = cc

ready_by : (t : Timeline) (n : ℕ) (o : Option Event) → event_at t n ≡ o → redo_refusal_of t n o ≡ None → IsReady t n
ready_by t n None at h = cc
ready_by t n (Some e) at h = elim (either (is_among t.kept n)) [
  | inl among ↦
      let never : Some AlreadyKept ≡ None = sym (ap (λ b. cond b (Some AlreadyKept) (redo_refusal_now t n e (refusal t.manifest t.jobs (state_at t) e))) among) ∙ h in
      cc
  | inr apart ↦
      let now = ready_now t n e (refusal t.manifest t.jobs (state_at t) e) (sym (ap (λ b. cond b (Some AlreadyKept) (redo_refusal_now t n e (refusal t.manifest t.jobs (state_at t) e))) apart) ∙ h) in
      record { event = e; at = at; apart = apart; accepts = now.0; none = now.1 }
]

pub is_ready : (t : Timeline) (n : ℕ) → redo_refusal t n ≡ None → IsReady t n
is_ready t n h = ready_by t n (event_at t n) refl h

pub ready_redo : (t : Timeline) (n : ℕ) → IsReady t n → redo_refusal t n ≡ None
ready_redo t n r =
    ap (redo_refusal_of t n) r.at
    ∙ ap (λ b. cond b (Some AlreadyKept) (redo_refusal_now t n r.event (refusal t.manifest t.jobs (state_at t) r.event))) r.apart
    ∙ ap (redo_refusal_now t n r.event) r.accepts
    ∙ ap overtaken r.none

pub kept_redone : (t : Timeline) (n : ℕ) (e : Event) → IsHistory t → is_among t.kept n ≡ false → event_at t n ≡ Some e → kept_events (redone n t) ≡ causal.put n e (kept_events t)
kept_redone t n e h apart at = chosen-placed t.accepted t.kept n e h.rising h.accepted apart at

pub redone_by : (t : Timeline) (n : ℕ) (h : IsHistory t) (r : IsReady t n) → causal.Redone (machine_at t) t.opening (kept_events t) n r.event
redone_by t n h r =
    by_number.redone (machine_at t) (machine-local t.manifest t.jobs) t.opening n r.event (kept_events t) (chosen-rises t.accepted t.kept h.rising)
    (event_at-not_chosen t.accepted t.kept n r.apart) h.legal r.accepts r.none

pub redone_history : (t : Timeline) (n : ℕ) → IsHistory t → redo_refusal t n ≡ None → IsHistory (redone n t)
redone_history t n h free =
    let r : IsReady t n = is_ready t n free in
    record {
      rising = IsRising-placed n t.kept h.rising r.apart;
      accepted = All-placed _ n t.kept (subst IsSome (sym r.at) refl) h.accepted;
      legal = subst (Legal (machine_at t) t.opening) (sym (kept_redone t n r.event h r.apart r.at)) (redone_by t n h r).legal;
    }

pub redone_kept : (t : Timeline) (n : ℕ) (ks : List ℕ) → IsHistory t → redo_refusal t n ≡ None → ks ≡ placed n t.kept → IsHistory (record t { kept = ks })
redone_kept t n ks h free is = subst (λ (xs : List ℕ). IsHistory (record t { kept = xs })) (sym is) (redone_history t n h free)

-- back

-- a list whose last element is n
pub record EndsIn (ks : List ℕ) (n : ℕ) : Type 0 where
  pub front : List ℕ
  pub is : ks ≡ front ++ n ∷ []

pub ends_in : (ks : List ℕ) (n : ℕ) → slice_get ks (length ks - 1) ≡ Some n → EndsIn ks n
ends_in [] n h = cc
ends_in (k ∷ []) n h = let same : k ≡ n = cc in record { front = []; is = ap (λ m. m ∷ []) same }
ends_in (k ∷ j ∷ ks) n h =
    let next : length (k ∷ j ∷ ks) - 1 ≡ suc (length (j ∷ ks) - 1) = omega arith in
    let e : EndsIn (j ∷ ks) n = ends_in (j ∷ ks) n (sym (ap (slice_get (k ∷ j ∷ ks)) next) ∙ h) in
    record { front = k ∷ e.front; is = ap (λ xs. k ∷ xs) e.is }

among_last : (xs : List ℕ) (n : ℕ) → is_among (xs ++ n ∷ []) n ≡ true
among_last [] n = ap (λ b. b || false) (eq-eqb n n refl)
among_last (x ∷ xs) n = or_true (nat_eq n x) (among_last xs n)
  where
    or_true : (a : Bool) {b : Bool} → b ≡ true → (a || b) ≡ true
    or_true true h = refl
    or_true false h = h

pub all_last : (P : ℕ → Type 0) (xs : List ℕ) (n : ℕ) → AllByRecursion P (xs ++ n ∷ []) → P n
all_last P [] n h = h.0
all_last P (x ∷ xs) n h = all_last P xs n h.1

all_front : (P : ℕ → Type 0) (xs : List ℕ) (n : ℕ) → AllByRecursion P (xs ++ n ∷ []) → AllByRecursion P xs
all_front P [] n h = tt
all_front P (x ∷ xs) n h = (h.0, all_front P xs n h.1)

pub below_last : (xs : List ℕ) (n : ℕ) → IsRising (xs ++ n ∷ []) → AllByRecursion (λ k. k < n) xs
below_last [] n h = tt
below_last (x ∷ xs) n h = (all_last (λ y. x < y) xs n h.0, below_last xs n h.1)

-- nothing depends on the greatest
last_free : (m : Machine) (es : List (ℕ × m.Event)) (s : m.State) (xs : List ℕ) (n : ℕ) → AllAccepted es (xs ++ n ∷ []) → AllByRecursion (λ k. k < n) xs → causal.nearest_to m n (entries m s (chosen es (xs ++ n ∷ []))) ≡ None
last_free m es s [] n all below =
    let e = some_is (causal.event_at n es) all.0 in
    ap (λ o. causal.nearest_to m n (entries m s (under n o []))) e.1 ∙ ap (λ b. cond b None None) (eq-eqb n n refl)
last_free m es s (x ∷ xs) n all below =
    let e = some_is (causal.event_at x es) all.0 in
    let rest : List (Entry m) = entries m (m.after s e.0) (chosen es (xs ++ n ∷ [])) in
    ap (λ o. causal.nearest_to m n (entries m s (under x o (chosen es (xs ++ n ∷ []))))) e.1
    ∙ ap (λ b. cond b (causal.number_of m (nearest (clash m) (record { number = x; event = e.0; footprint = m.footprint s e.0 }) rest)) (causal.nearest_to m n rest)) (ne_eqb x n (λ p. let lt : x < n = below.0 in omega arith))
    ∙ last_free m es (m.after s e.0) xs n all.1 below.1

pub greatest_free : (t : Timeline) (n : ℕ) → IsHistory t → greatest_kept t ≡ Some n → IsFree t n
greatest_free t n h last =
    let e : EndsIn t.kept n = ends_in t.kept n last in
    let all : AllAccepted t.accepted (e.front ++ n ∷ []) = subst (AllAccepted t.accepted) e.is h.accepted in
    let below : AllByRecursion (λ k. k < n) e.front = below_last e.front n (subst IsRising e.is h.rising) in
    let event = some_is (event_at t n) (all_last _ e.front n all) in
    record {
      event = event.0;
      at = event.1;
      among = ap (λ ks. is_among ks n) e.is ∙ among_last e.front n;
      none = ap (λ ks. causal.nearest_to (machine_at t) n (entries (machine_at t) t.opening (chosen t.accepted ks))) e.is ∙ last_free (machine_at t) t.accepted t.opening e.front n all below;
    }
