-- The two versions of the format. They have the same lines but for the first; they differ in which lanes may be named,
-- and in what a lane may hold.
use Rattle.std.specs.Prelude.{ℕ, ◌==◌, Bool, true, false, not, nat_le, if◌then◌else◌, bytes_eq, codes, List, [], ◌∷◌, Result, Err}
use Rattle.rev_commands.specs.declared.command.Command.{Command}
use Rattle.rev_commands.specs.declared.command.Command.TheVariants as command
use Rattle.rev_events.specs.declared.event.Event.TheVariants as event
use Rattle.rev_fields.specs.declared.faults.FaultKind.{FaultKind}
use Rattle.rev_fields.specs.declared.faults.FaultKind.TheVariants.{Syntax}
use Rattle.rev_fields.specs.Fields.{texts_of}
use Rattle.rev_fields.specs.Lines.{read_as}
use Rattle.rev_trace.specs.declared.version.Version.{Version}
use Rattle.rev_trace.specs.declared.version.Version.TheVariants.{One, Two}
use Rattle.rev_trace.specs.Commands.{command_of}

-- the first line
abbrev pub first_line : Version → List ℕ
first_line One = codes "rebug-trace 1"
first_line Two = codes "rebug-trace 2"

-- the version that a first line names, and whether it names one
abbrev pub version_of : List ℕ → Version
version_of line = if bytes_eq line (first_line Two) then Two else One

abbrev pub is_first : List ℕ → Bool
is_first line = bytes_eq line (first_line (version_of line))

-- whether a lane line may name this lane, where so many are open: the next one, and in version 2 also one of these
abbrev pub may_name : Version → ℕ → ℕ → Bool
may_name One count n = n == count
may_name Two count n = nat_le n count

abbrev pub is_resize : Command → Bool
is_resize (command.Event (event.Resize pool depth)) = true
is_resize _ = false

-- whether a lane may hold the command: in version 1 it may not where that gives a pool another depth
abbrev pub may_hold : Version → Command → Bool
may_hold One c = not (is_resize c)
may_hold Two c = true

-- whether a line of a lane may begin with the first of these texts
abbrev pub may_begin : Version → List (List ℕ) → Bool
may_begin One [] = true
may_begin One (word ∷ rest) = not (bytes_eq word (codes "resize"))
may_begin Two texts = true

-- the command that a line of a lane is, where its fields have these texts and `plan` without a path means these targets
abbrev pub held_of : Version → List (List ℕ) → List (List ℕ) → Result Command FaultKind
held_of version targets texts = if may_begin version texts then command_of targets texts else Err Syntax

-- the command that a line of a lane is
abbrev pub held_line : Version → List (List ℕ) → List ℕ → Result Command FaultKind
held_line version targets line = read_as (held_of version targets) (texts_of line)
