-- Later commands that were seen to look at what an event left.
use Rattle.std.specs.Prelude.{ℕ, ◌==◌, nat_le, nat_lt, Bool, true, ◌&&◌, List, [], filter, is_some, length, map, Option, None, Some, option_and_then, if◌then◌else◌}
use Rattle.std.specs.List.{flat_map, list_any, range_with_len}
use Rattle.rev_paths.specs.Paths.{place_of}
use Rattle.rev_manifest.specs.Builds.{BuildValue}
use Rattle.rev_graph.specs.Graph.{build_at, inputs_of}
use Rattle.rev_history.specs.Timeline.{Timeline, event_at}
use Rattle.rev_observed.specs.CommandValues.{CommandValue}
use Rattle.rev_looked.specs.Commands.{command_of, look_of}
use Rattle.rev_looked.specs.Events.{begun_edge}
use Rattle.rev_looked.specs.Needs.{Scene, holds, is_left, is_number, needs_of}
use Rattle.rev_looked.specs.declared.need.Need.{Need}
use Rattle.rev_looked.specs.declared.user.User.{User}

-- the edge whose command began at the event of a number
abbrev pub begun_at : Timeline → ℕ → Option ℕ
begun_at t number = option_and_then (begun_edge t.manifest.builds) (event_at t number)

-- the paths that were left other than they were at the event of a number
abbrev pub left_paths : Scene → ℕ → List ℕ
left_paths s n = filter (λ path. is_left s path n) (range_with_len 0 (length s.paths))

-- a later event begins a command that looks at one of them
abbrev pub may_see : Scene → ℕ → ℕ → Bool
may_see s n later =
    nat_lt n later
    && holds (λ command. list_any (λ path. is_some (look_of command path)) (left_paths s n))
    (option_and_then (command_of s.edges s.commands) (begun_at s.timeline later))

-- of the needs of a later event those of n
abbrev pub user_of : ℕ → Need → User
user_of later need = record { number = later; path = need.path; look = need.look }

abbrev pub users_in : ℕ → ℕ → List Need → List User
users_in n later needs = map (user_of later) (filter (λ (need : Need). need.number == n) needs)

abbrev pub users_at : Scene → ℕ → ℕ → List User
users_at s n later = if may_see s n later then users_in n later (needs_of s later) else []

-- WHO LOOKS AT WHAT AN EVENT LEFT: each later kept event that begins a command which needs n by a look at a path that was
-- left at n
abbrev pub users_of : Scene → ℕ → List User
users_of s n = flat_map (users_at s n) s.timeline.kept

-- AS THEY ARE FOUND
-- what was left at a path is still there before a later event, by the next event that left the path again
abbrev pub is_there : Option ℕ → ℕ → Bool
is_there None later = true
is_there (Some next) later = nat_le later next

-- how a command of an edge, begun at a later event, looks at a path that was left, where that is still there and the
-- build line does not declare it
abbrev pub user_by : List BuildValue → List (List ℕ) → ℕ → CommandValue → ℕ → Option ℕ → ℕ → Option User
user_by builds paths edge command later next path =
    if is_there next later
    then option_and_then (λ look. if list_any (λ name. is_number path (place_of name paths)) (inputs_of (build_at builds edge)) then None
    else Some (record { number = later; path = path; look = look })) (look_of command path)
    else None
