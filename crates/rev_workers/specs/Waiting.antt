-- For which refusals a lane waits, and until when.
use Rattle.std.specs.Prelude.{ℕ, ◌+◌, ◌≡◌, ◌≢◌, ◌≤◌, ◌==◌, ◌&&◌, ⊤, Bool, true, false, not, List, length, map, Some, None, slice_get, slice_set, if◌then◌else◌}
use Rattle.std.specs.declared.snapshot.Snapshot.{Snapshot}
use Rattle.rev_events.specs.declared.event.Event.TheVariants as event
use Rattle.rev_events.specs.declared.refusal.Refusal.TheVariants as refusal
use Rattle.rev_commands.specs.declared.command.Command.{Command}
use Rattle.rev_commands.specs.declared.command.Command.TheVariants as command
use Rattle.rev_desk.specs.Machine.{DeskValue, reply_to}
use Rattle.rev_desk.specs.declared.reply.Reply.{Reply}
use Rattle.rev_desk.specs.declared.reply.Reply.TheVariants as reply
use Rattle.rev_workers.specs.declared.standing.Standing.{Standing}
use Rattle.rev_workers.specs.declared.standing.Standing.TheVariants as standing

-- the command is refused, and other lanes can end that: an input is not made yet (68), or a job (72) or slot (74) is
-- taken
abbrev pub may_pass : Reply → Bool
may_pass (reply.Refused (refusal.Blocked position)) = true
may_pass (reply.Refused (refusal.JobBusy edge)) = true
may_pass (reply.Refused (refusal.SlotBusy edge)) = true
may_pass _ = false

abbrev pub MayPass : Reply → Type 0
MayPass r = may_pass r ≡ true

-- WHO RESTS
-- a lane has ended, or waits with a command that this very desk refuses so
abbrev pub Rests : DeskValue → Standing → Type 0
Rests desk standing.Going = ⊥
Rests desk (standing.Waiting refused_at for_input asked) = MayPass (reply_to desk asked.value)
Rests desk standing.Ended = ⊤

-- no lane beside the one of this number goes on
abbrev pub OthersRest : ℕ → DeskValue → List Standing → Type 0
OthersRest number desk standings =
    (k : ℕ) (s : Standing) → slice_get standings k ≡ Some s → k ≢ number → Rests desk s

-- a lane has ended, or waits and need not look at a journal of so many entries
abbrev pub IsStill : ℕ → Standing → Type 0
IsStill entries standing.Going = ⊥
IsStill entries (standing.Waiting refused_at for_input asked) = refused_at ≡ entries
IsStill entries standing.Ended = ⊤

abbrev pub OthersAreStill : ℕ → ℕ → List Standing → Type 0
OthersAreStill number entries standings =
    (k : ℕ) (s : Standing) → slice_get standings k ≡ Some s → k ≢ number → IsStill entries s

-- a lane waits, and is to look at a journal of so many entries
abbrev pub is_to_look : ℕ → Standing → Bool
is_to_look entries standing.Going = false
is_to_look entries (standing.Waiting refused_at for_input asked) = not (refused_at == entries)
is_to_look entries standing.Ended = false

-- WHAT NEED NOT BE LOOKED AT
-- an edge is to start, or to be settled without a run
abbrev pub is_made : Command → Bool
is_made (command.Event (event.Start out job slot)) = true
is_made (command.Event (event.Clean out)) = true
is_made (command.Event (event.Pass out)) = true
is_made _ = false

abbrev pub is_blocked : Reply → Bool
is_blocked (reply.Refused (refusal.Blocked position)) = true
is_blocked _ = false

-- and is refused for an input that is not made yet
abbrev pub is_for_input : Command → Reply → Bool
is_for_input c r = is_made c && is_blocked r

abbrev pub is_touch : Command → Bool
is_touch (command.Event (event.Touch path stamp)) = true
is_touch _ = false

-- accepted, and no break was met
abbrev pub is_plain : Reply → Bool
is_plain (reply.Accepted n None) = true
is_plain _ = false

-- A file is touched and no break is met: no edge is settled by that, so who waits for an input need not look.
abbrev pub makes_no_input : DeskValue → Command → Bool
makes_no_input desk c = is_touch c && is_plain (reply_to desk c)

-- a lane begins to wait with a command, and the others stand as they stood
abbrev pub BeginsToWait : DeskValue → ℕ → Command → List Standing → List Standing → Type 0
BeginsToWait desk number c old new =
    (asked : Snapshot Command) × (asked.value ≡ c)
    × (new ≡ slice_set old number (standing.Waiting (length desk.journal) (is_for_input c (reply_to desk c)) asked))

-- how a lane stands after one entry more that makes no input, over a journal of so many entries before that
abbrev pub kept_waiting : ℕ → Standing → Standing
kept_waiting entries standing.Going = standing.Going
kept_waiting entries (standing.Waiting refused_at for_input asked) =
    if for_input && (refused_at == entries) then standing.Waiting (entries + 1) for_input asked
    else standing.Waiting refused_at for_input asked
kept_waiting entries standing.Ended = standing.Ended

-- how lanes stand after a command's entry
abbrev pub standings_after : DeskValue → Command → List Standing → List Standing
standings_after desk c standings =
    if makes_no_input desk c then map (kept_waiting (length desk.journal)) standings else standings

-- WHAT HOLDS OF A LANE THAT WAITS
-- its command may pass, and it is known whether it is for an input
abbrev pub IsRefusedSo : Bool → Command → Reply → Type 0
IsRefusedSo for_input c r = MayPass r × (for_input ≡ is_for_input c r)

-- As long as the journal is as long as when its command was refused, the desk refuses it so.
abbrev pub Stands : DeskValue → Standing → Type 0
Stands desk standing.Going = ⊤
Stands desk (standing.Waiting refused_at for_input asked) =
    (refused_at ≤ length desk.journal)
    × (refused_at ≡ length desk.journal → IsRefusedSo for_input asked.value (reply_to desk asked.value))
Stands desk standing.Ended = ⊤

-- A lane that waits is refused now: where it need not look again, this very desk refuses its command with 68, 72 or 74.
abbrev pub WhoWaitsIsRefused : DeskValue → List Standing → Type 0
WhoWaitsIsRefused desk standings =
    (lane refused_at : ℕ) (for_input : Bool) (asked : Snapshot Command)
    → slice_get standings lane ≡ Some (standing.Waiting refused_at for_input asked) → refused_at ≡ length desk.journal
    → MayPass (reply_to desk asked.value)

-- a lane does not wait
abbrev pub IsOutOfWay : Standing → Type 0
IsOutOfWay standing.Going = ⊤
IsOutOfWay (standing.Waiting refused_at for_input asked) = ⊥
IsOutOfWay standing.Ended = ⊤
