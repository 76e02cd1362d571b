use Rattle.std.proofs.Common.{◌≡◌, ◌++◌, ◌<◌, ℕ, map, take, get_or}
use Rattle.std.specs.List.{flat_map}
use Rattle.rev_observed.specs.CommandValues.{CommandValue}
use Rattle.rev_observed.specs.Texts.{command_texts, ended, line_text}
use Rattle.rev_observed_text.specs.Writable.{IsWritable}
use Rattle.rev_observed_text.proofs.lines.push_commands.Given as goal

abbrev pub invariant-loop-command : goal.invariant-loop-command
invariant-loop-command l =
    (l.text.items ≡ l.initial.text.items ++ flat_map (λ (c : CommandValue). flat_map ended (map line_text (command_texts c))) (take l.command-index l.commands))
    × ((k : ℕ) (d : CommandValue) → k < l.command-index → IsWritable (get_or l.commands k d))
