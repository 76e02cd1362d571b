use Rattle.std.proofs.Common.{◌≡◌, true, is_some, ap, ◌∙◌, sym}
use Rattle.rev_observation.specs.Entries.{has_name}
use Rattle.rev_observation.proofs.CommandLemmas.{commands_put-double, has_name-there}
use Rattle.rev_observation.proofs.observation.push_command.Goals as goal

pub returns-then-is_some-clause-commands : goal.returns-then-is_some-clause-commands
returns-then-is_some-clause-commands c =
    let output = c.args.output in
    let has : has_name c.args.outputs.now output ≡ true = has_name-there output c.args.outputs.now (ap is_some (sym c.find.ensures.place) ∙ sym c.is_some.ensures ∙ c.if-is_some.true) in
    commands_put-double c.args.commands.now.items output (ap (λ names. has_name names output) (sym c.requires) ∙ has)
