-- The lanes that have commands left, as contracts see them.
use Rattle.std.specs.Prelude.{ℕ, List, map}
use Rattle.std.specs.List.{flat_map}
use Rattle.std.specs.Prelude.{slice_get}
use Rattle.rev_commands.specs.declared.command.Command.{Command}
use Rattle.rev_script.specs.declared.turns.LeftLane.{LeftLane}
use Rattle.rev_script.specs.Turns.{turn_of}

-- the number of a lane, and its commands
abbrev pub seen_left : List LeftLane → List (ℕ × List Command)
seen_left left = map (λ lane. (lane.lane, lane.commands.now)) left

-- the commands at a place of these lanes
abbrev pub round_of : {A : Type 0} → ℕ → List (ℕ × List A) → List (ℕ × A)
round_of place lanes = flat_map (λ lane. turn_of lane.0 (slice_get lane.1 place)) lanes
