-- The steps of commands within a history.
use Rattle.std.specs.Prelude.{◌≡◌, ℕ, true, List, [], ◌∷◌}
use Rattle.rev_manifest.specs.Manifest.{ManifestValue}
use Rattle.rev_cells.specs.State.{State, mark_of}
use Rattle.rev_plan.specs.Plan.{is_running_mark}
use Rattle.rev_events.specs.Held.{IsOpened}
use Rattle.rev_events.specs.Machine.{after as after_event}
use Rattle.rev_events.specs.declared.event.Event.{Event}
use Rattle.rev_history.specs.Timeline.{IsHistory, Numbered, Timeline, kept_events}
use Rattle.rev_events.specs.Refusal.{is_settled}
use Rattle.rev_waits.specs.Waits.{Waits}
use Rattle.rev_world.specs.Commands.{Command, Disk}
use Rattle.rev_world.specs.Schedules.{HasEnded, HasSameOutcome, IsComplete, NoneConflict, World, after, opening, run}

-- What happens in a build: an event of its history under its number, or a step of an edge's command.
pub data Moment : Type 0 where
  Happens : ℕ × Event → Moment
  Acts : ℕ → Moment

abbrev pub events_in : List Moment → Numbered
events_in [] = []
events_in (Happens event ∷ moments) = event ∷ events_in moments
events_in (Acts edge ∷ moments) = events_in moments

-- the schedule: whose command did the first step, the second, and so on
abbrev pub schedule_in : List Moment → List ℕ
schedule_in [] = []
schedule_in (Happens event ∷ moments) = schedule_in moments
schedule_in (Acts edge ∷ moments) = edge ∷ schedule_in moments

-- the world to which the steps lead from a disk
abbrev pub end_of : (ℕ → Command) → Disk → List Moment → World
end_of commands disk moments = run commands (opening disk) (schedule_in moments)

-- What a history holds for settled is so: of the edges that an edge waits for, the command of each that is settled has
-- ended. That of an edge which need not run has nothing to do.
abbrev pub SettledHaveEnded : ManifestValue → (ℕ → Command) → State → World → ℕ → Type 0
SettledHaveEnded manifest commands state world edge =
    (other : ℕ) → Waits manifest.builds edge other → is_settled (mark_of state other) ≡ true
    → HasEnded commands world other

-- A command does its steps while its edge runs, and what its edge waits for has ended where it is settled.
abbrev pub AreWithinRuns : ManifestValue → (ℕ → Command) → State → World → List Moment → Type 0
AreWithinRuns manifest commands state world [] = Unit {0}
AreWithinRuns manifest commands state world (Happens event ∷ moments) =
    AreWithinRuns manifest commands (after_event manifest state event.1) world moments
AreWithinRuns manifest commands state world (Acts edge ∷ moments) =
    (is_running_mark (mark_of state edge) ≡ true)
    × (SettledHaveEnded manifest commands state world edge
    × AreWithinRuns manifest commands state (after commands world edge) moments)

-- A history, whole or on its way, with the steps of its commands between its events.
pub record IsPlayed (t : Timeline) (commands : ℕ → Command) (disk : Disk) (moments : List Moment) : Type 0 where
  pub history : IsHistory t
  pub opened : IsOpened t.opening
  pub events_are : events_in moments ≡ kept_events t
  pub within : AreWithinRuns t.manifest commands t.opening (opening disk) moments

-- Where one history ends with each command ended, and no two unordered edges conflict in it, each history of the same
-- build lines, with the same commands from the same disk, has its outcome.
abbrev pub OneOutcomeOfHistories : Type 0
OneOutcomeOfHistories =
    (commands : ℕ → Command) (disk : Disk) (shown other : Timeline) (moments others : List Moment)
    → IsPlayed shown commands disk moments → IsComplete commands (end_of commands disk moments)
    → NoneConflict (Waits shown.manifest.builds) (end_of commands disk moments).steps
    → IsPlayed other commands disk others → other.manifest.builds ≡ shown.manifest.builds
    → HasSameOutcome commands (end_of commands disk moments) (end_of commands disk others)
