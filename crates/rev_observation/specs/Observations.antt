-- What the commands of a build saw and changed.
use Rattle.std.specs.Prelude.{ℕ, Bool, false, ◌||◌, ◌&&◌, not, is_none, if◌then◌else◌, List, [], ◌∷◌, ◌++◌, Option, None, Result, Ok, Err}
use Rattle.rev_observed.specs.declared.path_set.PathRange.{PathRange}
use Rattle.rev_observed.specs.declared.faults.FaultKind.{FaultKind}
use Rattle.rev_observed.specs.declared.faults.FaultKind.TheVariants.{Double}
use Rattle.rev_observed.specs.Faults.{◌>>=◌}
use Rattle.rev_observation.specs.declared.blocks.Line.{Line}
use Rattle.rev_observation.specs.declared.head.Hidden.{Hidden}
use Rattle.rev_observation.specs.declared.head.Observer.{Observer}
use Rattle.rev_observation.specs.Blocks.{CommandValue, is_empty, new_command, outputs_of}
use Rattle.rev_observation.specs.Entries.{EntriesValue, NamesValue, entry_put, has_name, name_put, no_entries, no_names}

-- what observed; entries by number, and further names of some; which were names of one file, and which were there at the
-- start; what is hidden; what Ninja changed, and the commands in the order of their starts; whether the last line stands
-- there, and whether it is that of a whole observation
pub record ObservationValue : Type 0 where
  pub by : Observer
  pub entries : EntriesValue
  pub names : NamesValue
  pub same : List (List PathRange)
  pub opening : Option (List PathRange)
  pub hidden : List Hidden
  pub has_ninja : Bool
  pub ninja : List Line
  pub commands : List CommandValue
  pub is_ended : Bool
  pub is_complete : Bool

-- no entry and no command yet
abbrev pub nothing_by : Observer → ObservationValue
nothing_by by = record {
  by = by;
  entries = no_entries;
  names = no_names;
  same = [];
  opening = None;
  hidden = [];
  has_ninja = false;
  ninja = [];
  commands = [];
  is_ended = false;
  is_complete = false;
}

-- whether a block has begun
abbrev pub begins : ObservationValue → Bool
begins o = o.has_ninja || not (is_empty o.commands)

-- the lines of the head stand in the order `path`, `also`, `same`, `opening`, `hidden`, before all blocks
abbrev pub may_open : ObservationValue → Bool
may_open o = not (begins o) && is_none o.opening && is_empty o.hidden

abbrev pub may_name : ObservationValue → Bool
may_name o = may_open o && is_empty o.same

abbrev pub may_enter : ObservationValue → Bool
may_enter o = may_name o && is_empty o.names.names

-- one more entry, whose path is that of no other
abbrev pub path_put : ObservationValue → List ℕ → Option ℕ → Result ObservationValue FaultKind
path_put o path folder = entry_put o.entries path folder >>= λ entries. Ok (record o { entries = entries })

-- one more name of an entry, which no entry has yet
abbrev pub also_put : ObservationValue → List ℕ → ℕ → Result ObservationValue FaultKind
also_put o name entry =
    if has_name o.entries.paths name then Err Double
    else (name_put o.names name entry >>= λ names. Ok (record o { names = names }))

-- an observation with other commands
abbrev pub with_commands : ObservationValue → List CommandValue → ObservationValue
with_commands o commands = record o { commands = commands }

-- one more command, whose edge has none yet
abbrev pub commands_put : List CommandValue → List ℕ → Result (List CommandValue) FaultKind
commands_put commands output =
    if has_name (outputs_of commands) output then Err Double else Ok (commands ++ new_command output ∷ [])

abbrev pub command_put : ObservationValue → List ℕ → Result ObservationValue FaultKind
command_put o output = commands_put o.commands output >>= λ commands. Ok (with_commands o commands)

-- an observation that is complete, or is not
abbrev pub settled : ObservationValue → Bool → ObservationValue
settled o complete = record o { is_complete = complete }
