-- The steps of commands within a history whose manifest has pools of depth 1.
use Rattle.std.specs.Prelude.{◌≡◌, ◌≢◌, ◌⊎◌, ℕ, true, false, List, [], ◌∷◌, Some}
use Rattle.rev_manifest.specs.Manifest.{ManifestValue}
use Rattle.rev_graph.specs.Graph.{pool_of}
use Rattle.rev_cells.specs.State.{State, mark_of}
use Rattle.rev_plan.specs.Plan.{is_running_mark}
use Rattle.rev_events.specs.Held.{IsOpened}
use Rattle.rev_events.specs.Machine.{after as after_event}
use Rattle.rev_events.specs.Pools.{present_pool}
use Rattle.rev_history.specs.Timeline.{IsHistory, Timeline, kept_events}
use Rattle.rev_waits.specs.Waits.{Waits}
use Rattle.rev_world.specs.Commands.{Command, Disk}
use Rattle.rev_world.specs.Schedules.{HasEnded, HasSameOutcome, IsComplete, World, after, opening}
use Rattle.rev_world.specs.Pools.{NoneConflictInPools}
use Rattle.rev_world_histories.specs.Histories.{Moment, Moment.Happens, Moment.Acts, SettledHaveEnded, end_of, events_in}

-- The edges are of one pool, and the manifest gives it the depth 1.
abbrev pub AreOfOnePool : ManifestValue → ℕ → ℕ → Type 0
AreOfOnePool manifest a b =
    (pool : ℕ) × ((pool_of manifest a ≡ Some (pool, 1)) × (pool_of manifest b ≡ Some (pool, 1)))

-- No `resize` has changed the depth of the edge's pool, where that is 1.
abbrev pub KeepsDepth : ManifestValue → State → ℕ → Type 0
KeepsDepth manifest state edge =
    (pool : ℕ) → pool_of manifest edge ≡ Some (pool, 1) → present_pool manifest state edge ≡ Some (pool, 1)

-- Of the other edges of its pool of depth 1, each that does not run has not begun, or its command has ended. A command
-- that a history counts as failed or stopped has ended, too.
abbrev pub OthersAtRest : ManifestValue → (ℕ → Command) → State → World → ℕ → Type 0
OthersAtRest manifest commands state world edge =
    (other : ℕ) → other ≢ edge → AreOfOnePool manifest edge other → is_running_mark (mark_of state other) ≡ false
    → (world.steps other ≡ []) ⊎ HasEnded commands world other

-- An edge's command may do a step: the edge runs, what it waits for has ended where it is settled, its pool has the depth
-- that the manifest says, and the others of the pool are at rest where they do not run.
pub record MayAct (manifest : ManifestValue) (commands : ℕ → Command) (state : State) (world : World) (edge : ℕ) : Type 0 where
  pub runs : is_running_mark (mark_of state edge) ≡ true
  pub settled : SettledHaveEnded manifest commands state world edge
  pub depth : KeepsDepth manifest state edge
  pub others : OthersAtRest manifest commands state world edge

abbrev pub AreWithinPools : ManifestValue → (ℕ → Command) → State → World → List Moment → Type 0
AreWithinPools manifest commands state world [] = Unit {0}
AreWithinPools manifest commands state world (Happens event ∷ moments) =
    AreWithinPools manifest commands (after_event manifest state event.1) world moments
AreWithinPools manifest commands state world (Acts edge ∷ moments) =
    MayAct manifest commands state world edge
    × AreWithinPools manifest commands state (after commands world edge) moments

-- A history, whole or on its way, with the steps of its commands between its events, which keep to their pools.
pub record IsPlayedInPools (t : Timeline) (commands : ℕ → Command) (disk : Disk) (moments : List Moment) : Type 0 where
  pub history : IsHistory t
  pub opened : IsOpened t.opening
  pub events_are : events_in moments ≡ kept_events t
  pub within : AreWithinPools t.manifest commands t.opening (opening disk) moments

-- Where one history ends with each command ended, and no two unordered edges conflict in it but at temporaries of a pool
-- of depth 1, each history of the same manifest, with the same commands from the same disk, has its outcome.
abbrev pub OneOutcomeOfHistoriesInPools : Type 0
OneOutcomeOfHistoriesInPools =
    (commands : ℕ → Command) (disk : Disk) (shown other : Timeline) (moments others : List Moment)
    → IsPlayedInPools shown commands disk moments → IsComplete commands (end_of commands disk moments)
    → NoneConflictInPools (Waits shown.manifest.builds) (AreOfOnePool shown.manifest) disk
    (end_of commands disk moments).steps
    → IsPlayedInPools other commands disk others → other.manifest ≡ shown.manifest
    → HasSameOutcome commands (end_of commands disk moments) (end_of commands disk others)
