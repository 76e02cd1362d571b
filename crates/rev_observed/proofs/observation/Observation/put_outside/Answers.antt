use Rattle.std.proofs.Common.{◌≡◌, length, Some, ap, ◌∙◌, sym}
use Rattle.rev_observed.specs.CommandValues.{with_outside}
use Rattle.rev_observed.specs.Observations.{ObservationValue, last_of, with_commands, with_last}
use Rattle.rev_observed.proofs.observation.Observation.put_outside.Goals as goal

pub invariant_of-self : goal.invariant_of-self
invariant_of-self c =
    (c.self.invariant.0 ∙ sym c.put_last_outside.ensures.outputs, c.put_last_outside.ensures.within (length c.self.inside.paths) c.self.invariant.1)

pub returns : goal.returns
returns c = λ d last.
    let before : ObservationValue = record { by = c.self.inside.by.items; paths = c.self.inside.paths; commands = c.self.inside.commands.items } in
    let there : last_of c.self.inside.commands.items ≡ Some d = ap (λ (o : ObservationValue). last_of o.commands) c.self.view_is ∙ last in
    let f : ObservationValue → ObservationValue = λ o. with_commands o (with_last o.commands (with_outside d c.args.count)) in
    ap (with_commands before) (c.put_last_outside.ensures.ok d there) ∙ ap f c.self.view_is
