-- What holds of every history of events.
use Rattle.std.specs.Prelude.{◌≡◌, ◌≢◌, ℕ, ◌<◌, ◌≤◌, true, ◌↔◌, Some, None}
use Rattle.std.specs.List.{AllByRecursion}
use Rattle.rev_causal.specs.Machine.{Machine}
use Rattle.rev_causal.specs.Order.{Stands}
use Rattle.rev_causal.specs.Entries.{Entry, clash}
use Rattle.rev_causal.specs.Laws.{IsLeastDependent, IsLeastInTheWay, IsLeastCone}
use Rattle.rev_events.specs.declared.event.Event.{Event}
use Rattle.rev_events.specs.declared.refusal.Refusal.TheVariants.{DependedOn, Overtaken}
use Rattle.rev_events.specs.Machine.{after}
use Rattle.rev_manifest.specs.Manifest.{ManifestValue}
use Rattle.rev_footprint.specs.Value.{print_of}
use Rattle.rev_footprint.specs.Footprint.{footprint}
use Rattle.rev_footprint.specs.Machine.{machine}
use Rattle.rev_history.specs.Timeline.{Timeline, IsHistory, machine_at, event_at, kept_events, kept_entries, state_at, last_of, is_among, accept_refusal, accepted_as, undo_refusal, undone, redo_refusal, redone, greatest_kept, kept_footprint, cone_refusal, coned}

-- the event of a later kept number m conflicts with that of the kept number n, each with the footprint of its place
pub record DependsOn (t : Timeline) (m n : ℕ) : Type 0 where
  pub one : Entry (machine_at t)
  pub other : Entry (machine_at t)
  pub of_n : one.number ≡ n
  pub of_m : other.number ≡ m
  pub later : Stands one other (kept_entries t)
  pub conflicts : clash (machine_at t) one other ≡ true

-- a step back from the event that was accepted last: it is the one that is undone, and state and kept numbers are as
-- before
pub record StepsBack (t : Timeline) (n : ℕ) (e : Event) : Type 0 where
  pub greatest : greatest_kept (accepted_as n e t) ≡ Some n
  pub kept : (undone n (accepted_as n e t)).kept ≡ t.kept
  pub state : state_at (undone n (accepted_as n e t)) ≡ state_at t

abbrev pub StepBack : Type 0
StepBack =
    (t : Timeline) (n : ℕ) (e : Event) → IsHistory t → last_of t.accepted < n → accept_refusal t e ≡ None
    → StepsBack t n e

-- an event can be undone exactly where it is kept and none depends on it
abbrev pub UndoExactlyWhenIndependent : Type 0
UndoExactlyWhenIndependent =
    (t : Timeline) (n : ℕ) → IsHistory t
    → (undo_refusal t n ≡ None) ↔ ((is_among t.kept n ≡ true) × ((m : ℕ) → DependsOn t m n → ⊥))

-- a refused undo names the least number that depends
abbrev pub NearestIsNamed : Type 0
NearestIsNamed =
    (t : Timeline) (n m : ℕ) → IsHistory t → undo_refusal t n ≡ Some (DependedOn m)
    → IsLeastDependent (machine_at t) t.opening (kept_events t) n m

-- what an undo leaves are events each of which is accepted in the state that those before it leave
abbrev pub UndoLeavesTheOthers : Type 0
UndoLeavesTheOthers = (t : Timeline) (n : ℕ) → IsHistory t → undo_refusal t n ≡ None → IsHistory (undone n t)

-- redoing next what was undone is not refused, and restores state and history
abbrev pub RedoNextRestores : Type 0
RedoNextRestores =
    (t : Timeline) (n : ℕ) → IsHistory t → undo_refusal t n ≡ None
    → (redo_refusal (undone n t) n ≡ None) × (redone n (undone n t) ≡ t)

-- a redo at the number's place has the same result as the event run now
abbrev pub RedoRunsNow : Type 0
RedoRunsNow =
    (t : Timeline) (n : ℕ) (e : Event) → IsHistory t → event_at t n ≡ Some e → redo_refusal t n ≡ None
    → IsHistory (redone n t) × (state_at (redone n t) ≡ after t.manifest (state_at t) e)

-- a redo that is refused because of a later event names the least kept number above its own whose event conflicts with
-- the footprint that it has now
abbrev pub OvertakingIsNamed : Type 0
OvertakingIsNamed =
    (t : Timeline) (n m : ℕ) (e : Event) → IsHistory t → event_at t n ≡ Some e → redo_refusal t n ≡ Some (Overtaken m) →
    IsLeastInTheWay (machine_at t) t.opening (kept_events t) n (print_of (footprint t.manifest (state_at t) e)) m

-- undo and redo change the footprint of no other event
abbrev pub UndoKeepsFootprints : Type 0
UndoKeepsFootprints =
    (t : Timeline) (n m : ℕ) → IsHistory t → undo_refusal t n ≡ None → m ≢ n
    → kept_footprint (undone n t) m ≡ kept_footprint t m

abbrev pub RedoKeepsFootprints : Type 0
RedoKeepsFootprints =
    (t : Timeline) (n m : ℕ) → IsHistory t → redo_refusal t n ≡ None → m ≢ n
    → kept_footprint (redone n t) m ≡ kept_footprint t m

-- the greatest kept number is at least each of them
abbrev pub GreatestIsGreatest : Type 0
GreatestIsGreatest =
    (t : Timeline) (n : ℕ) → IsHistory t → greatest_kept t ≡ Some n → AllByRecursion (λ k. k ≤ n) t.kept

-- The cone of a kept number is the least set that holds its event and each one that depends on a member; its numbers
-- rise, and the events that it leaves are accepted one after the other, each with the footprint that it had.
abbrev pub ConeIsLeast : Type 0
ConeIsLeast =
    (t : Timeline) (n : ℕ) → IsHistory t → cone_refusal t n ≡ None
    → IsLeastCone (machine_at t) t.opening (kept_events t) n × IsHistory (coned n t)

-- a law of one machine, for all builds
abbrev pub OfAllBuilds : (Machine → Type 0) → Type 0
OfAllBuilds Law = (manifest : ManifestValue) (jobs : ℕ) → Law (machine manifest jobs)
