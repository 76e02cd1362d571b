use Rattle.std.proofs.Common.{◌≡◌, [], ap, ◌∙◌, arith}
use Rattle.std.proofs.lemmas.Grind.{common_steps}
use Rattle.rev_trace.specs.Commands.{command_line}
use Rattle.rev_trace.specs.Texts.{command_text}
use Rattle.rev_trace.proofs.TextLemmas.{commands-are-read}
use Rattle.rev_trace.proofs.texts.text.Goals as goal

pub returns-clause-read : goal.returns-clause-read
returns-clause-read c = λ has.
    let written : c.push_command.new.line.items ≡ command_text c.args.command.now = grind (arith, common_steps) in
    ap (command_line []) written ∙ commands-are-read c.args.command.now c.in_ok-push_command.ensures.sound has
