-- What is read is what the table of lines says, and the line that says a command is read as that command.
use Rattle.std.specs.Prelude.{◌≡◌, ◌↔◌, ℕ, List, [], Ok}
use Rattle.rev_commands.specs.declared.command.Command.{Command}
use Rattle.rev_trace.specs.Commands.{command_line}
use Rattle.rev_trace.specs.Grammar.{Exact, LineSays}
use Rattle.rev_trace.specs.Texts.{HasStamps, IsCommand, command_text}

-- but for an empty list of stamps, which is an empty field
abbrev pub CommandsAreRead : Type 0
CommandsAreRead = (c : Command) → IsCommand c → HasStamps c → command_line [] (command_text c) ≡ Ok c

-- a line is read as a command exactly where it says that command, where `plan` without a path means these targets
abbrev pub LinesSayCommands : Type 0
LinesSayCommands =
    (targets : List (List ℕ)) (line : List ℕ) (c : Command)
    → (command_line targets line ≡ Ok c) ↔ LineSays Exact targets line c
