use Rattle.std.proofs.Common.{◌≡◌, length, Some, ap, ◌∙◌, sym, subst}
use Rattle.rev_observed.specs.Within.{RangesAreWithin}
use Rattle.rev_observation.specs.Blocks.{last_of, with_outside, with_last}
use Rattle.rev_observation.specs.Observations.{ObservationValue, with_commands}
use Rattle.rev_observation.proofs.observation.Observation.put_outside.Goals as goal

pub invariant_of-self : goal.invariant_of-self
invariant_of-self c =
    (c.self.invariant.0 ∙ sym c.put_last_outside.ensures.outputs, c.put_last_outside.ensures.within (length c.self.inside.entries.paths) c.self.invariant.1, c.self.invariant.2)

pub returns : goal.returns
returns c = λ d last.
    let before : ObservationValue = record { by = c.self.inside.by; entries = c.self.inside.entries; names = c.self.inside.names; same = c.self.inside.same.items; opening = c.self.inside.opening; hidden = c.self.inside.hidden.items; has_ninja = c.self.inside.has_ninja; ninja = c.self.inside.ninja.items; commands = c.self.inside.commands.items; is_ended = c.self.inside.is_ended; is_complete = c.self.inside.is_complete } in
    let there : last_of c.self.inside.commands.items ≡ Some d = ap (λ (o : ObservationValue). last_of o.commands) c.self.view_is ∙ last in
    let f : ObservationValue → ObservationValue = λ o. with_commands o (with_last o.commands (with_outside d c.args.count)) in
    ap (with_commands before) (c.put_last_outside.ensures.ok d there) ∙ ap f c.self.view_is
