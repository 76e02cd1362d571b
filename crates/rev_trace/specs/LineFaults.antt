-- What is wrong with one line that has to say a command, and which commands no line says.
use Rattle.std.specs.Prelude.{◌≡◌, ◌↔◌, ℕ, List, [], Err}
use Rattle.rev_commands.specs.declared.command.Command.{Command}
use Rattle.rev_fields.specs.declared.faults.FaultKind.{FaultKind}
use Rattle.rev_fields.specs.declared.faults.FaultKind.TheVariants.{Syntax, Number}
use Rattle.rev_trace.specs.Commands.{command_line}
use Rattle.rev_trace.specs.Grammar.{Exact, Shape, LineSays}
use Rattle.rev_trace.specs.Texts.{HasStamps}

-- What is wrong with a line, where `plan` without a path means these targets: it is the line of no command, even where
-- any text counts as a number; or it is one but for its numbers.
pub data IsWrongLine : List (List ℕ) → List ℕ → FaultKind → Type 0 where
  HasNoShape : {targets : List (List ℕ)} {line : List ℕ}
      → ((c : Command) → LineSays Shape targets line c → ⊥) → IsWrongLine targets line Syntax
  HasNoNumber : {targets : List (List ℕ)} {line : List ℕ} (c : Command)
      → LineSays Shape targets line c → ((other : Command) → LineSays Exact targets line other → ⊥)
      → IsWrongLine targets line Number

-- a line has a fault exactly where that is what is wrong with it
abbrev pub LineFaultsAreTold : Type 0
LineFaultsAreTold =
    (targets : List (List ℕ)) (line : List ℕ) (kind : FaultKind)
    → (command_line targets line ≡ Err kind) ↔ IsWrongLine targets line kind

-- the empty line says no command, even where any text counts as a number
abbrev pub EmptyLineSaysNone : Type 0
EmptyLineSaysNone = (targets : List (List ℕ)) (c : Command) → LineSays Shape targets [] c → ⊥

-- no line says a command with an empty list of stamps
abbrev pub SaidHaveStamps : Type 0
SaidHaveStamps =
    (targets : List (List ℕ)) (line : List ℕ) (c : Command) → LineSays Exact targets line c → HasStamps c
