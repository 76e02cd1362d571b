-- What holds of every desk.
use Rattle.std.specs.Prelude.{◌≡◌, ℕ, true}
use Rattle.rev_commands.specs.declared.command.Command.{Command}
use Rattle.rev_desk.specs.Machine.{DeskValue, after, reply_to}
use Rattle.rev_desk.specs.Sound.{IsDesk}
use Rattle.rev_workers.specs.Waiting.{is_for_input, is_plain, is_touch}

-- after a touch that meets no break, a command that waits for an input has the reply that it had
abbrev pub TouchesKeepWaits : Type 0
TouchesKeepWaits =
    (d : DeskValue) (lane : ℕ) (touch c : Command) → IsDesk d → is_touch touch ≡ true
    → is_plain (reply_to d touch) ≡ true → is_for_input c (reply_to d c) ≡ true
    → reply_to (after d lane touch) c ≡ reply_to d c
