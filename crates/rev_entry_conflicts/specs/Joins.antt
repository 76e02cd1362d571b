-- One outcome by the conflicts that are told.
use Rattle.std.specs.Prelude.{◌≡◌, ℕ, ◌<◌, ◌==◌, Bool, true, false, not, ◌&&◌, List, length}
use Rattle.std.specs.List.{Contains, list_any, range_with_len}
use Rattle.rev_world.specs.Commands.{Command, Disk, Place, place_eq}
use Rattle.rev_world.specs.Laws.{By}
use Rattle.rev_world.specs.Observed.{NoneTold, TellsAll, Told}
use Rattle.rev_world.specs.Schedules.{HasSameOutcome, IsComplete, IsLegal, opening, run}
use Rattle.rev_entry_conflicts.specs.declared.conflict.Conflict.{Conflict}
use Rattle.rev_entry_conflicts.specs.declared.conflict.Kind.{Kind}
use Rattle.rev_entry_conflicts.specs.declared.conflict.Kind.TheVariants as kind
use Rattle.rev_entry_conflicts.specs.declared.deed.Command.{Command as Ran}
use Rattle.rev_entry_conflicts.specs.declared.word.Act.TheVariants as act
use Rattle.rev_entry_conflicts.specs.Deeds.{Scene, asks, does, entry_at, waits}
use Rattle.rev_entry_conflicts.specs.Conflicts.{conflicts}

-- WHAT IS TOLD OF PLACES
-- each entry has a place, and no two have one
abbrev pub AreNamed : Scene → (ℕ → Place) → Type 0
AreNamed s place_of =
    (one other : ℕ) → one < length s.entries → other < length s.entries
    → place_eq (place_of one) (place_of other) ≡ true → one ≡ other

-- a command of the edge did this at the entry, which no filter hides; what runs before all else does not count
abbrev pub is_seen : Scene → (Ran → ℕ → Bool) → ℕ → ℕ → Bool
is_seen s test edge entry =
    not (entry_at s entry).hidden
    && list_any (λ (c : Ran). (not c.early && c.edge == edge) && test c entry) s.commands

-- the same of a place: of an entry that has it
abbrev pub is_seen_at : Scene → (ℕ → Place) → (Ran → ℕ → Bool) → ℕ → Place → Bool
is_seen_at s place_of test edge place =
    list_any (λ entry. place_eq (place_of entry) place && is_seen s test edge entry) (range_with_len 0 (length s.entries))

-- what the commands of an edge were seen to do
abbrev pub told : Scene → (ℕ → Place) → ℕ → Told
told s place_of edge = record {
  asked = is_seen_at s place_of (asks s) edge;
  passed = is_seen_at s place_of (does act.Passes) edge;
  left = is_seen_at s place_of (does act.Leaves) edge;
  ensured = is_seen_at s place_of (does act.Ensures) edge;
}

-- WITHOUT A CONFLICT
-- of two commands that conflict in this way neither waits for the other
abbrev pub is_unordered : Kind → Bool
is_unordered kind.Clash = true
is_unordered kind.Race = true
is_unordered kind.Folder = true
is_unordered kind.Link = true
is_unordered kind.Cycle = false
is_unordered kind.Unstable = false

abbrev pub NoneUnordered : List Conflict → Type 0
NoneUnordered conflicts = (c : Conflict) → Contains conflicts c → is_unordered c.kind ≡ false

-- Where no conflict is told of commands of which neither waits for the other, the premise of the law of one outcome holds.
abbrev pub NoConflictNoneTold : Type 0
NoConflictNoneTold =
    (s : Scene) (place_of : ℕ → Place) → AreNamed s place_of → NoneUnordered (conflicts s)
    → NoneTold (By (waits s)) (told s place_of)

-- Where no such conflict is told, and the observation says all that the commands of one legal schedule did, each legal
-- schedule of the same commands from the same disk has its outcome.
abbrev pub NoConflictOneOutcome : Type 0
NoConflictOneOutcome =
    (s : Scene) (place_of : ℕ → Place) (commands : ℕ → Command) (disk : Disk) (schedule other : List ℕ)
    → AreNamed s place_of → NoneUnordered (conflicts s)
    → TellsAll (told s place_of) (run commands (opening disk) schedule).steps
    → IsLegal (By (waits s)) commands (opening disk) schedule → IsComplete commands (run commands (opening disk) schedule)
    → IsLegal (By (waits s)) commands (opening disk) other
    → HasSameOutcome commands (run commands (opening disk) schedule) (run commands (opening disk) other)
