use Rattle.std.proofs.Common.{length, Ok, refl, subst}
use Rattle.rev_observed.specs.Faults.{Answers}
use Rattle.rev_observed.specs.Observations.{ObservationValue, command_put, commands_put, with_commands}
use Rattle.rev_observed.proofs.AnswerLemmas.{answers_then}
use Rattle.rev_observed.proofs.observation.Observation.put_command.Goals as goal

pub invariant_of-self : goal.invariant_of-self
invariant_of-self c =
    (c.push_command.ensures.outputs, c.push_command.ensures.within (length c.self.inside.paths) c.self.invariant.1)

pub returns : goal.returns
returns c =
    let before : ObservationValue = record { by = c.self.inside.by.items; paths = c.self.inside.paths; commands = c.self.inside.commands.items } in
    let after : ObservationValue = with_commands before c.push_command.new.commands.items in
    let P : ObservationValue → Type 0 = λ o. Answers c.push_command.result (λ _. after) (command_put o c.args.output c.args.flags) in
    subst P c.self.view_is (answers_then c.push_command.result (λ _. c.push_command.new.commands.items) (λ _. after) (commands_put before.commands c.args.output c.args.flags) (λ commands. Ok (with_commands before commands)) (λ _. refl) c.push_command.ensures.commands)
