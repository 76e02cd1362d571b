-- Files that nobody makes and that changed while commands ran.
use Rattle.std.specs.Prelude.{◌≡◌, ℕ, nat_lt, Bool, false, ◌&&◌, List, [], ◌∷◌, ◌++◌, length, Option, None, Some, is_none, bytes_eq, if◌then◌else◌}
use Rattle.std.specs.Map.{lookup}
use Rattle.std.specs.Option.{option_map, option_or}
use Rattle.rev_manifest.specs.Manifest.{BuildValue}
use Rattle.rev_graph.specs.Graph.{producer_of}
use Rattle.rev_events.specs.declared.event.Event.{Event}
use Rattle.rev_events.specs.declared.event.Event.TheVariants.{Touch}
use Rattle.rev_hints.specs.declared.changes.Changed.{Changed}
use Rattle.rev_hints.specs.Running.{running}

-- a change: the number of its event, and the edges whose commands ran then
pub record ChangeValue : Type 0 where
  pub number : ℕ
  pub ran : List ℕ

-- the event changes the file at this path
abbrev pub touches : List ℕ → Event → Bool
touches path (Touch changed stamp) = bytes_eq changed path
touches path _ = false

-- the change that an event makes of a path while these commands run; none where no command runs
abbrev pub change_by : List ℕ → List ℕ → ℕ × Event → Option ChangeValue
change_by path ran e =
    if touches path e.1 && nat_lt 0 (length ran) then Some (record { number = e.0; ran = ran }) else None

-- the last change of a path while commands ran, of those that events make which come after others
abbrev pub last_change_after : List BuildValue → List ℕ → List (ℕ × Event) → List (ℕ × Event) → Option ChangeValue
last_change_after builds path before [] = None
last_change_after builds path before (e ∷ es) =
    option_or (last_change_after builds path (before ++ e ∷ []) es) (change_by path (running builds before) e)

-- the last change of a path while commands ran
abbrev pub last_change : List BuildValue → List ℕ → List (ℕ × Event) → Option ChangeValue
last_change builds path events = last_change_after builds path [] events

-- Nobody makes the file at a path, by any of its names: no edge has the path among its outputs, and it is no other name
-- of one. `names` has the other names of outputs, each with its output.
abbrev pub is_unmade : List BuildValue → List (List ℕ × List ℕ) → List ℕ → Bool
is_unmade builds names path = is_none (producer_of builds path) && is_none (lookup (bytes_eq path) names)

-- the change of a path that counts: the last one while commands ran, where nobody makes the file
abbrev pub change_of : List BuildValue → List (List ℕ × List ℕ) → List (ℕ × Event) → List ℕ → Option ChangeValue
change_of builds names events path = if is_unmade builds names path then last_change builds path events else None

-- AS THEY ARE FOUND
abbrev pub change_value : Changed → ChangeValue
change_value change = record { number = change.number; ran = change.ran.items }

-- the change that a table has of a path
abbrev pub change_in : List (List ℕ × Changed) → List ℕ → Option ChangeValue
change_in table path = option_map change_value (lookup (bytes_eq path) table)

-- what is noted of events: the commands that run after them, and the changes that count
pub record AreNoted
    (builds : List BuildValue) (names : List (List ℕ × List ℕ)) (events : List (ℕ × Event)) (ran : List ℕ)
    (table : List (List ℕ × Changed))
    : Type 0 where
  pub running_are : ran ≡ running builds events
  pub changes_are : (path : List ℕ) → change_in table path ≡ change_of builds names events path
