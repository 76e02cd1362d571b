-- What an event rests on, by what its command was seen to look at.
use Rattle.std.specs.Prelude.{ℕ, ◌==◌, nat_lt, Bool, false, ◌&&◌, List, [], find, length, reverse, Option, Some, None, option_and_then, if◌then◌else◌}
use Rattle.std.specs.List.{filter_map, list_any, range_with_len}
use Rattle.rev_paths.specs.Paths.{place_of}
use Rattle.rev_graph.specs.Graph.{build_at, inputs_of}
use Rattle.rev_history.specs.Timeline.{Timeline, event_at}
use Rattle.rev_observed.specs.CommandValues.{CommandValue}
use Rattle.rev_observed.specs.declared.kind.Kind.{Kind}
use Rattle.rev_runs.specs.Runs.{is_kept}
use Rattle.rev_looked.specs.Commands.{command_of, leaves, look_of}
use Rattle.rev_looked.specs.Events.{ended_edge, run_edge}
use Rattle.rev_looked.specs.declared.need.Need.{Need}

-- A history, the paths and the commands that were observed, and the edge of each command.
pub record Scene : Type 0 where
  pub timeline : Timeline
  pub paths : List (List ℕ)
  pub commands : List CommandValue
  pub edges : List ℕ

abbrev pub scene : Timeline → List (List ℕ) → List CommandValue → List ℕ → Scene
scene timeline paths commands edges =
    record { timeline = timeline; paths = paths; commands = commands; edges = edges }

-- a fact of what there may be
abbrev pub holds : {T : Type 0} → (T → Bool) → Option T → Bool
holds p None = false
holds p (Some x) = p x

-- the edge whose command ended at the event of a number
abbrev pub ended_at : Timeline → ℕ → Option ℕ
ended_at t number = option_and_then (ended_edge t.manifest.builds) (event_at t number)

-- the event of a number ended a command that left the path other than it was
abbrev pub is_left : Scene → ℕ → ℕ → Bool
is_left s path number =
    holds (λ command. leaves command path) (option_and_then (command_of s.edges s.commands) (ended_at s.timeline number))

-- the last kept event before n that did
abbrev pub last_left : Scene → ℕ → ℕ → Option ℕ
last_left s n path = find (λ k. nat_lt k n && is_left s path k) (reverse s.timeline.kept)

-- the first kept event after n that did
abbrev pub next_left : Scene → ℕ → ℕ → Option ℕ
next_left s n path = find (λ k. nat_lt n k && is_left s path k) s.timeline.kept

-- the path is an input on the build line of the edge
abbrev pub is_number : ℕ → Option ℕ → Bool
is_number path place = holds (λ p. p == path) place

abbrev pub is_declared : Scene → ℕ → ℕ → Bool
is_declared s edge path =
    list_any (λ name. is_number path (place_of name s.paths))
    (inputs_of (build_at s.timeline.manifest.builds edge))

-- What a command of the edge, which looks at a path like this, needs by it, where the path was last left at the event of
-- a number: that event, unless it ended a command of the same edge.
abbrev pub need_by : Timeline → ℕ → ℕ → Kind → ℕ → Option Need
need_by t edge path look number =
    if holds (λ e. e == edge) (ended_at t number) then None
    else Some (record { number = number; path = path; look = look })

-- what it needs by a path, if it looks at it, and if it was left before: nothing where the build line declares it
abbrev pub need_in : Timeline → ℕ → ℕ → Bool → Option Kind → Option ℕ → Option Need
need_in t edge path declared look number =
    if declared then None else option_and_then (λ look. option_and_then (need_by t edge path look) number) look

abbrev pub need_at : Scene → ℕ → ℕ → CommandValue → ℕ → Option Need
need_at s n edge command path =
    need_in s.timeline edge path (is_declared s edge path) (look_of command path) (last_left s n path)

-- the same of all paths, in the order of their numbers
abbrev pub needs_by : Scene → ℕ → ℕ → CommandValue → List Need
needs_by s n edge command = filter_map (need_at s n edge command) (range_with_len 0 (length s.paths))

abbrev pub needs_of_edge : Scene → ℕ → ℕ → Option CommandValue → List Need
needs_of_edge s n edge None = []
needs_of_edge s n edge (Some command) = needs_by s n edge command

abbrev pub needs_if : Scene → ℕ → Option ℕ → List Need
needs_if s n None = []
needs_if s n (Some edge) = needs_of_edge s n edge (command_of s.edges s.commands edge)

-- WHAT AN EVENT NEEDS by what was observed: of a kept event that begins or ends a command, for each path that the command
-- looks at and that its build line does not declare, the last kept event before it at which a command of another edge
-- ended that left the path.
abbrev pub needs_of : Scene → ℕ → List Need
needs_of s n =
    if is_kept s.timeline n
    then needs_if s n (option_and_then (run_edge s.timeline.manifest.builds) (event_at s.timeline n))
    else []
