-- The steps of a history are a legal schedule.
use Rattle.std.proofs.Common.{◌≡◌, ℕ, true, List, [], ◌∷◌, inl, inr, refl, sym, subst}
use Rattle.rev_causal.specs.Machine.{Legal}
use Rattle.rev_manifest.specs.Manifest.{BuildValue, ManifestValue}
use Rattle.rev_graph.specs.Graph.{EdgeReaches, EdgeReaches.step as one, EdgeReaches.further as on}
use Rattle.rev_cells.specs.State.{State, mark_of}
use Rattle.rev_plan.specs.Plan.{is_running_mark}
use Rattle.rev_events.specs.Machine.{after as after_event}
use Rattle.rev_events.specs.Refusal.{is_settled}
use Rattle.rev_footprint.specs.Machine.{machine}
use Rattle.rev_history.specs.Timeline.{machine_at, Timeline}
use Rattle.rev_waits.specs.Waits.{Waits}
use Rattle.rev_races.proofs.Waiting.{IsOrdered, event-ordered, farther, opened-ordered, running-not-due, running-not-idle, settled-not-due}
use Rattle.rev_world.specs.Commands.{Command, Disk}
use Rattle.rev_world.specs.Schedules.{IsLegal, World, after, opening}
use Rattle.rev_world_histories.specs.Histories.{AreWithinRuns, IsPlayed, Moment, Moment.Happens, Moment.Acts, OneOutcomeOfHistories, events_in, schedule_in}
use Rattle.rev_world_builds.proofs.BuildLemmas.{one-outcome}

-- what a running edge waits for is settled
pub running-settled : (builds : List BuildValue) (s : State) (x y : ℕ) → IsOrdered builds s → is_running_mark (mark_of s x) ≡ true → EdgeReaches builds x y → is_settled (mark_of s y) ≡ true
running-settled builds s x y ordered runs way = along way
  where
    behind : (p : ℕ) → EdgeReaches builds x p → is_settled (mark_of s p) ≡ true → (q : ℕ) → EdgeReaches builds p q → is_settled (mark_of s q) ≡ true
    behind p front h q (one step) = ordered p (x, running-not-idle (mark_of s x) runs, inr front) (settled-not-due (mark_of s p) h) q step
    behind p front h q (on {middle = m} step way) =
        behind m (farther front step) (ordered p (x, running-not-idle (mark_of s x) runs, inr front) (settled-not-due (mark_of s p) h) m step) q way

    along : EdgeReaches builds x y → is_settled (mark_of s y) ≡ true
    along (one step) = ordered x (x, running-not-idle (mark_of s x) runs, inl refl) (running-not-due (mark_of s x) runs) y step
    along (on {middle = m} step way) =
        behind m (one step) (ordered x (x, running-not-idle (mark_of s x) runs, inl refl) (running-not-due (mark_of s x) runs) m step) y way

module _ (manifest : ManifestValue) (jobs : ℕ) (commands : ℕ → Command) where
  are-legal : (moments : List Moment) (s : State) (world : World) → IsOrdered manifest.builds s → Legal (machine manifest jobs) s (events_in moments) → AreWithinRuns manifest commands s world moments
      → IsLegal (Waits manifest.builds) commands world (schedule_in moments)
  are-legal [] s world ordered legal within = tt
  are-legal (Happens event ∷ moments) s world ordered legal within =
      are-legal moments (after_event manifest s event.1) world (event-ordered manifest jobs s event.1 legal.0 ordered) legal.1 within
  are-legal (Acts edge ∷ moments) s world ordered legal within = (
    λ other way. within.1.0 other way (running-settled manifest.builds s edge other ordered within.0 way),
    are-legal moments s (after commands world edge) ordered legal within.1.1,
  )

pub played-legal : (t : Timeline) (commands : ℕ → Command) (disk : Disk) (moments : List Moment) → IsPlayed t commands disk moments → IsLegal (Waits t.manifest.builds) commands (opening disk) (schedule_in moments)
played-legal t commands disk moments played =
    are-legal t.manifest t.jobs commands moments t.opening (opening disk) (opened-ordered t.manifest t.jobs t.opening played.opened)
    (subst (λ es. Legal (machine_at t) t.opening es) (sym played.events_are) played.history.legal) played.within

pub one-outcome-of-histories : OneOutcomeOfHistories
one-outcome-of-histories commands disk shown other moments others played complete none played_other same =
    one-outcome shown.manifest.builds commands disk (schedule_in moments) (schedule_in others) (played-legal shown commands disk moments played) complete none
    (subst (λ builds. IsLegal (Waits builds) commands (opening disk) (schedule_in others)) same (played-legal other commands disk others played_other))
