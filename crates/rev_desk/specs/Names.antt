-- How commands name events, by numbers and labels.
use Rattle.std.specs.Prelude.{ℕ, ◌+◌, ◌-◌, ◌==◌, Bool, true, false, List, [], ◌∷◌, slice_get, Option, Some, None, option_and_then, if◌then◌else◌}
use Rattle.rev_commands.specs.declared.command.Command.{Command}
use Rattle.rev_commands.specs.declared.command.Command.TheVariants as command
use Rattle.rev_commands.specs.declared.which.Which.{Which}
use Rattle.rev_commands.specs.declared.which.Which.TheVariants as which
use Rattle.rev_desk.specs.declared.reply.Reply.{Reply}
use Rattle.rev_desk.specs.declared.reply.Reply.TheVariants as reply
use Rattle.rev_desk.specs.declared.reply.Entry.{Entry}

-- the numbers of a lane's entries, where the first entry of the list has the number n
abbrev pub numbers_from : ℕ → ℕ → List Entry → List ℕ
numbers_from lane n [] = []
numbers_from lane n (e ∷ es) = if e.lane == lane then n ∷ numbers_from lane (n + 1) es else numbers_from lane (n + 1) es

-- the numbers of a lane's entries in a journal, in their order
abbrev pub lane_numbers : List Entry → ℕ → List ℕ
lane_numbers journal lane = numbers_from lane 1 journal

-- what stands at a place that counts from 1
abbrev pub at_place : {A : Type 0} → List A → ℕ → Option A
at_place xs place = if place == 0 then None else slice_get xs (place - 1)

abbrev pub is_event : Command → Bool
is_event (command.Event e) = true
is_event _ = false

abbrev pub is_accepted : Reply → Bool
is_accepted (reply.Accepted n b) = true
is_accepted _ = false

-- the number, where its entry is an event that was accepted, undone since or not
abbrev pub if_accepted : ℕ → Entry → Option ℕ
if_accepted n e = if is_event e.command then (if is_accepted e.reply then Some n else None) else None

abbrev pub accepted_event : List Entry → ℕ → Option ℕ
accepted_event journal n = option_and_then (if_accepted n) (at_place journal n)

-- the number that a name stands for: a number for itself, a label for the entry that has that place among its lane's,
-- where this is an accepted event
abbrev pub named : List Entry → Which → Option ℕ
named journal (which.Number n) = Some n
named journal (which.Label lane place) =
    option_and_then (accepted_event journal) (at_place (lane_numbers journal lane) place)

-- the name in a command, where it has one
abbrev pub target : List Entry → Command → Option ℕ
target journal (command.Undo w) = named journal w
target journal (command.Redo w) = named journal w
target journal (command.Cone w) = named journal w
target journal _ = None
