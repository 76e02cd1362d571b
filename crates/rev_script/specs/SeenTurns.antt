-- Turns as contracts see them.
use Rattle.std.specs.Prelude.{ℕ, List, map}
use Rattle.rev_commands.specs.declared.command.Command.{Command}
use Rattle.rev_script.specs.declared.turns.Turn.{Turn}

-- the number of the lane, and the command
abbrev pub seen_turns : List Turn → List (ℕ × Command)
seen_turns turns = map (λ turn. (turn.lane, turn.command.now)) turns
