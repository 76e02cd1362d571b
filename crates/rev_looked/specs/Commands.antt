-- What observed commands did with paths.
use Rattle.std.specs.Prelude.{ℕ, ◌+◌, ◌==◌, Bool, ◌||◌, List, [], ◌∷◌, Option, Some, None, option_and_then, slice_get, if◌then◌else◌}
use Rattle.rev_observed.specs.CommandValues.{CommandValue, paths_of}
use Rattle.rev_observed.specs.declared.kind.Kind.{Kind}
use Rattle.rev_observed.specs.declared.kind.Kind.TheVariants.{Reads, Stats, Misses, Writes, Edits, Deletes, Temps}
use Rattle.rev_looked.specs.Ranges.{has_path}

-- the command did with the path what the kind says
abbrev pub does : Kind → CommandValue → ℕ → Bool
does kind command path = has_path (paths_of kind command.uses) path

-- How a command looks at a path: it reads it, asked for it and did not find it, or asked only for its stamp. Of these the
-- first is told.
abbrev pub look_of : CommandValue → ℕ → Option Kind
look_of command path =
    if does Reads command path then Some Reads
    else if does Misses command path then Some Misses
    else if does Stats command path then Some Stats
    else None

-- What a command does to a path: it changes in place what is there, makes or empties it, takes it away, or makes it and
-- takes it away again. Of these the first is told.
abbrev pub change_of : CommandValue → ℕ → Option Kind
change_of command path =
    if does Edits command path then Some Edits
    else if does Writes command path then Some Writes
    else if does Deletes command path then Some Deletes
    else if does Temps command path then Some Temps
    else None

-- the command left the path other than it was: it is there by it, or gone by it
abbrev pub leaves : CommandValue → ℕ → Bool
leaves command path = does Writes command path || does Deletes command path

-- the number of the first command whose edge this is, where the first of the list has the number `number`
abbrev pub number_from : ℕ → List ℕ → ℕ → Option ℕ
number_from number [] edge = None
number_from number (e ∷ es) edge = if e == edge then Some number else number_from (number + 1) es edge

-- the command that was observed of an edge, by the edges of the commands
abbrev pub command_of : List ℕ → List CommandValue → ℕ → Option CommandValue
command_of edges commands edge = option_and_then (slice_get commands) (number_from 0 edges edge)
