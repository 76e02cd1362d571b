use Rattle.std.proofs.Common.{length, Ok, refl, subst}
use Rattle.rev_observation.specs.Faults.{Answers}
use Rattle.rev_observation.specs.Observations.{ObservationValue, command_put, commands_put, with_commands}
use Rattle.rev_observation.proofs.AnswerLemmas.{answers_then}
use Rattle.rev_observation.proofs.observation.Observation.put_command.Goals as goal

pub invariant_of-self : goal.invariant_of-self
invariant_of-self c =
    (c.push_command.ensures.outputs, c.push_command.ensures.within (length c.self.inside.entries.paths) c.self.invariant.1, c.self.invariant.2)

pub returns : goal.returns
returns c =
    let before : ObservationValue = record { by = c.self.inside.by; entries = c.self.inside.entries; names = c.self.inside.names; same = c.self.inside.same.items; opening = c.self.inside.opening; hidden = c.self.inside.hidden.items; has_ninja = c.self.inside.has_ninja; ninja = c.self.inside.ninja.items; commands = c.self.inside.commands.items; is_ended = c.self.inside.is_ended; is_complete = c.self.inside.is_complete } in
    let after : ObservationValue = with_commands before c.push_command.new.commands.items in
    let P : ObservationValue → Type 0 = λ o. Answers c.push_command.result (λ _. after) (command_put o c.args.output) in
    subst P c.self.view_is (answers_then c.push_command.result (λ _. c.push_command.new.commands.items) (λ _. after) (commands_put before.commands c.args.output) (λ commands. Ok (with_commands before commands)) (λ _. refl) c.push_command.ensures.commands)
