-- What holds of every build.
use Rattle.std.specs.Prelude.{◌≡◌, ℕ, true, false, List}
use Rattle.std.specs.FinMap.{get}
use Rattle.rev_causal.specs.Laws.{FreeExactlyWhereLast, SameResult}
use Rattle.rev_causal.specs.Machine.{IsLocal, Legal, run}
use Rattle.rev_causal.specs.OrderCheck.{EqualEventsConflict}
use Rattle.rev_causal.specs.Store.{IsLocalTable, is_accessed}
use Rattle.rev_manifest.specs.Manifest.{ManifestValue}
use Rattle.rev_cells.specs.declared.cell.Cell.{Cell}
use Rattle.rev_cells.specs.Keys.{cell_cmp}
use Rattle.rev_cells.specs.State.{State}
use Rattle.rev_events.specs.declared.event.Event.{Event}
use Rattle.rev_events.specs.Held.{IsHeldExactly, IsOpened}
use Rattle.rev_events.specs.Machine.{refusal}
use Rattle.rev_footprint.specs.Footprint.{footprint, is_plan}
use Rattle.rev_footprint.specs.Value.{print_of}
use Rattle.rev_footprint.specs.Machine.{table, machine}

-- Locality: where a state agrees with the event's on the cells of its footprint, it accepts the event too, with the
-- same written values and the same footprint. A whole event reads every cell.
abbrev pub EventsAreLocal : Type 0
EventsAreLocal = (manifest : ManifestValue) (jobs : ℕ) → IsLocalTable (table manifest jobs)

-- so the laws of undo hold of builds
abbrev pub MachineIsLocal : Type 0
MachineIsLocal = (manifest : ManifestValue) (jobs : ℕ) → IsLocal (machine manifest jobs)

-- exchanges keep the result, and nothing depends on an event exactly where some list that they lead to ends in it
abbrev pub RunsAreCausal : Type 0
RunsAreCausal =
    (manifest : ManifestValue) (jobs : ℕ)
    → SameResult (machine manifest jobs) × FreeExactlyWhereLast (machine manifest jobs)

-- Also a refusal depends on the cells of the footprint alone: a state that agrees on them refuses the event for the
-- same reason.
abbrev pub RefusalsAreLocal : Type 0
RefusalsAreLocal =
    (manifest : ManifestValue) (jobs : ℕ) (s u : State) (e : Event) → is_plan e ≡ false
    → ((c : Cell) → is_accessed cell_cmp (print_of (footprint manifest s e)) c ≡ true → get u c ≡ get s c)
    → refusal manifest jobs u e ≡ refusal manifest jobs s e

-- events that are accepted and are equal conflict, so that they can be matched in one way only
abbrev pub EqualConflict : Type 0
EqualConflict = (manifest : ManifestValue) (jobs : ℕ) → EqualEventsConflict (machine manifest jobs)

-- wherever legal events lead from an opening, what is held is what runs
abbrev pub RunsHoldExactly : Type 0
RunsHoldExactly =
    (manifest : ManifestValue) (jobs : ℕ) (opening : State) (events : List (ℕ × Event)) → IsOpened opening
    → Legal (machine manifest jobs) opening events
    → IsHeldExactly manifest (run (machine manifest jobs) opening events)
