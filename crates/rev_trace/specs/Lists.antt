-- What the code keeps of the lines of lanes that it has read.
use Rattle.std.specs.Prelude.{◌≡◌, ℕ, ◌<◌, ◌≤◌, ◌==◌, if◌then◌else◌, List, [], ◌∷◌, ◌++◌, get_or, set, length, Some, None}
use Rattle.rev_commands.specs.declared.command.Command.{Command}
use Rattle.rev_trace.specs.declared.lanes.Lanes.{Lanes}
use Rattle.rev_trace.specs.declared.traces.TheConstants.Trace.{MAX_LANES}
use Rattle.rev_trace.specs.declared.version.Version.{Version}
use Rattle.rev_trace.specs.Lanes.{lane_behind, lines_of_lane, opened_by}
use Rattle.rev_trace.specs.Traces.{commands_in, lanes_of, wrong_in_lane}

-- the commands of each lane, and the lane whose commands come next
pub record LanesValue : Type 0 where
  pub lists : List (List Command)
  pub named : ℕ

-- what the kept parts are
abbrev pub shown : Lanes → LanesValue
shown lanes = record { lists = lanes_of lanes.lists.items; named = lanes.named }

-- one lane, which has no commands
abbrev pub one_lane : LanesValue
one_lane = record { lists = [] ∷ []; named = 0 }

-- the commands of this lane come next, which is opened where it is the next
abbrev pub with_lane : LanesValue → ℕ → LanesValue
with_lane lanes n =
    record { lists = if n == length lanes.lists then lanes.lists ++ [] ∷ [] else lanes.lists; named = n }

-- one more command
abbrev pub with_command : LanesValue → Command → LanesValue
with_command lanes c =
    record {
      lists = set lanes.lists lanes.named (get_or lanes.lists lanes.named [] ++ c ∷ []);
      named = lanes.named;
    }

-- lanes to which a line has added what it says
pub record IsHeld
    (version : Version) (targets : List (List ℕ)) (old : LanesValue) (line : List ℕ) (new : LanesValue)
    : Type 0 where
  pub sound : wrong_in_lane version targets (length old.lists) line ≡ None
  pub named_is : lane_behind (Some old.named) line ≡ Some new.named
  pub named_in : new.named < length new.lists
  pub many : length new.lists ≡ opened_by (length old.lists) line
  pub few : length old.lists ≤ MAX_LANES → length new.lists ≤ MAX_LANES
  pub lists_are : (n : ℕ)
      → get_or new.lists n []
      ≡ get_or old.lists n [] ++ commands_in version targets (lines_of_lane n (Some old.named) (line ∷ []))
