-- What holds of every desk, whatever its lanes said.
use Rattle.std.specs.Prelude.{◌≡◌, ℕ, true, ◌↔◌, List, [], ◌∷◌, Some, None, IsSome}
use Rattle.rev_causal.specs.Laws.{IsLeastDependent}
use Rattle.rev_cells.specs.State.{State}
use Rattle.rev_commands.specs.declared.command.Command.{Command}
use Rattle.rev_commands.specs.declared.command.Command.TheVariants.{Undo, Redo}
use Rattle.rev_commands.specs.declared.which.Which.TheVariants.{Number}
use Rattle.rev_events.specs.declared.refusal.Refusal.{Refusal}
use Rattle.rev_events.specs.declared.refusal.Refusal.TheVariants.{DependedOn}
use Rattle.rev_manifest.specs.Manifest.{ManifestValue}
use Rattle.rev_history.specs.Timeline.{IsHistory, is_among, kept_events, machine_at, undone}
use Rattle.rev_history.specs.Laws.{DependsOn}
use Rattle.rev_desk.specs.declared.reply.Entry.{Entry}
use Rattle.rev_desk.specs.declared.reply.Reply.TheVariants.{Refused}
use Rattle.rev_desk.specs.Machine.{DeskValue, after, desk_state_of, opened_desk, refusal_of, reply_to}
use Rattle.rev_desk.specs.Sound.{IsDesk, run_of}

-- Whatever lanes say from an opening on, the kept events are then accepted one after the other from there: the state is
-- what they lead to.
abbrev pub KeptEventsLead : Type 0
KeptEventsLead =
    (manifest : ManifestValue) (jobs lanes : ℕ) (opening : State) (said : List Entry)
    → IsHistory (run_of (opened_desk manifest jobs opening lanes) said).history

-- a command that is refused leaves the history, the breaks and the pause as they were
abbrev pub RefusedChangesNothing : Type 0
RefusedChangesNothing =
    (d : DeskValue) (lane : ℕ) (c : Command) (r : Refusal) → reply_to d c ≡ Refused r
    → desk_state_of (after d lane c) ≡ desk_state_of d

-- an event can be undone exactly where it is kept and no event of a later kept number depends on it
abbrev pub UndoExactlyWhenIndependent : Type 0
UndoExactlyWhenIndependent =
    (d : DeskValue) (n : ℕ) → IsDesk d
    → (refusal_of d (Undo (Number n)) ≡ None)
    ↔ ((is_among d.history.kept n ≡ true) × ((m : ℕ) → DependsOn d.history m n → ⊥))

-- what an undo leaves is the history without that event, and the others are accepted one after the other
abbrev pub UndoLeavesTheOthers : Type 0
UndoLeavesTheOthers = (d : DeskValue) (lane n : ℕ) → IsDesk d → refusal_of d (Undo (Number n)) ≡ None
    → ((after d lane (Undo (Number n))).history ≡ undone n d.history) × IsHistory (undone n d.history)

-- a refused undo names the least number that depends
abbrev pub NearestIsNamed : Type 0
NearestIsNamed = (d : DeskValue) (n m : ℕ) → IsDesk d → reply_to d (Undo (Number n)) ≡ Refused (DependedOn m)
    → IsLeastDependent (machine_at d.history) d.history.opening (kept_events d.history) n m

-- the desk after commands of lanes
abbrev pub after_all : DeskValue → List (ℕ × Command) → DeskValue
after_all d [] = d
after_all d (x ∷ xs) = after_all (after d x.0 x.1) xs

-- each of them is refused at its place
abbrev pub AllRefused : DeskValue → List (ℕ × Command) → Type 0
AllRefused d [] = Unit {0}
AllRefused d (x ∷ xs) = IsSome (refusal_of d x.1) × AllRefused (after d x.0 x.1) xs

-- Redoing what was undone, with no accepted command between, is not refused, and restores the history and with it the
-- state.
abbrev pub RedoNextRestores : Type 0
RedoNextRestores =
    (d : DeskValue) (lane other n : ℕ) (between : List (ℕ × Command)) → IsDesk d → refusal_of d (Undo (Number n)) ≡ None
    → AllRefused (after d lane (Undo (Number n))) between
    → (refusal_of (after_all (after d lane (Undo (Number n))) between) (Redo (Number n)) ≡ None)
    × ((after (after_all (after d lane (Undo (Number n))) between) other (Redo (Number n))).history ≡ d.history)
