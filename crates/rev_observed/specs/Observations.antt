-- What the commands of a build did.
use Rattle.std.specs.Prelude.{ℕ, ◌-◌, length, bytes_eq, Bool, slice_get, List, [], ◌∷◌, ◌++◌, map, Option, Result, Ok, Err, if◌then◌else◌}
use Rattle.std.specs.List.{list_any, slice_set}
use Rattle.rev_observed.specs.declared.faults.FaultKind.{FaultKind}
use Rattle.rev_observed.specs.declared.faults.FaultKind.TheVariants.{Double}
use Rattle.rev_observed.specs.declared.flags.Flags.{Flags}
use Rattle.rev_observed.specs.CommandValues.{CommandValue, new_command}
use Rattle.rev_observed.specs.Faults.{◌>>=◌}

-- what observed, the paths by number, and the commands in the order of their starts
pub record ObservationValue : Type 0 where
  pub by : List ℕ
  pub paths : List (List ℕ)
  pub commands : List CommandValue

-- the first output of each command
abbrev pub outputs_of : List CommandValue → List (List ℕ)
outputs_of commands = map (λ c. c.output) commands

-- no path and no command yet
abbrev pub nothing_by : List ℕ → ObservationValue
nothing_by by = record { by = by; paths = []; commands = [] }

-- whether a name is one of these
abbrev pub has_name : List (List ℕ) → List ℕ → Bool
has_name names name = list_any (bytes_eq name) names

-- one more path, which has no number yet
abbrev pub path_put : ObservationValue → List ℕ → Result ObservationValue FaultKind
path_put o path = if has_name o.paths path then Err Double else Ok (record o { paths = o.paths ++ path ∷ [] })

-- one more command, whose edge has none yet
abbrev pub commands_put : List CommandValue → List ℕ → Flags → Result (List CommandValue) FaultKind
commands_put commands output flags =
    if has_name (outputs_of commands) output then Err Double else Ok (commands ++ new_command output flags ∷ [])

-- an observation with other commands
abbrev pub with_commands : ObservationValue → List CommandValue → ObservationValue
with_commands o commands = record o { commands = commands }

abbrev pub command_put : ObservationValue → List ℕ → Flags → Result ObservationValue FaultKind
command_put o output flags = commands_put o.commands output flags >>= λ commands. Ok (with_commands o commands)

-- the command that came last, if one did
abbrev pub last_of : List CommandValue → Option CommandValue
last_of commands = slice_get commands (length commands - 1)

-- the commands with another one in the place of the last
abbrev pub with_last : List CommandValue → CommandValue → List CommandValue
with_last commands c = slice_set commands (length commands - 1) c
