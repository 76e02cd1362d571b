use Rattle.std.proofs.Common.{map, sym, ◌∙◌}
use Rattle.std.specs.List.{flat_map}
use Rattle.std.proofs.lemmas.List.{get_or_default}
use Rattle.rev_observed.specs.CommandValues.{CommandValue}
use Rattle.rev_observed.specs.Texts.{command_texts, ended, line_text}
use Rattle.rev_observed_text.specs.Writable.{IsWritable}
use Rattle.rev_observed_text.proofs.TextLemmas.{all-known, all-put, commands-each, each-known, each-more}
use Rattle.rev_observed_text.proofs.lines.push_commands.Goals as goal

pub loop-command-preserved : goal.loop-command-preserved
loop-command-preserved c =
    let xs = c.args.commands.now in
    let i = c.loop-command.command-index in
    let item = c.command-item.result in (
      each-more (λ (x : CommandValue). flat_map ended (map line_text (command_texts x))) c.args.text.now.items c.loop-command.text.items c.push_command.new.text.items xs i item item c.loop-command-test.true (sym c.command-item.is)
          c.loop-command.invariant.0 c.in_ok-push_command.ensures.text,
      each-known IsWritable xs i item (λ d. get_or_default xs i d item c.loop-command-test.true ∙ sym c.command-item.is) c.in_ok-push_command.ensures.writable c.loop-command.invariant.1,
    )

pub returns-clause-text : goal.returns-clause-text
returns-clause-text c =
    all-put (λ (x : CommandValue). flat_map ended (map line_text (command_texts x))) c.args.text.now.items c.loop-command.text.items _ c.args.commands.now c.loop-command.command-index c.loop-command-test.false (commands-each c.args.commands.now)
    c.loop-command.invariant.0

pub returns-clause-writable : goal.returns-clause-writable
returns-clause-writable c = all-known IsWritable c.args.commands.now c.loop-command.command-index c.loop-command-test.false c.loop-command.invariant.1
