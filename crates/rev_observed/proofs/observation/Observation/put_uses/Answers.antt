use Rattle.std.proofs.Common.{◌≡◌, length, Some, ap, ◌∙◌, sym, subst}
use Rattle.std.proofs.lemmas.Result.{on_ok_weaker}
use Rattle.rev_observed.specs.CommandValues.{with_uses}
use Rattle.rev_observed.specs.Observations.{ObservationValue, last_of, with_commands, with_last}
use Rattle.rev_observed.specs.Within.{RangesAreWithin}
use Rattle.rev_observed.proofs.observation.Observation.put_uses.Goals as goal

pub invariant_of-self : goal.invariant_of-self
invariant_of-self c =
    let P : ObservationValue → Type 0 = λ o. RangesAreWithin (length o.paths) c.args.paths in
    let ranges = subst P (sym c.self.view_is) c.requires.within in
    (c.self.invariant.0 ∙ sym c.put_last_uses.ensures.outputs, c.put_last_uses.ensures.within (length c.self.inside.paths) ranges c.self.invariant.1)

pub returns : goal.returns
returns c = λ d last.
    let before : ObservationValue = record { by = c.self.inside.by.items; paths = c.self.inside.paths; commands = c.self.inside.commands.items } in
    let there : last_of c.self.inside.commands.items ≡ Some d = ap (λ (o : ObservationValue). last_of o.commands) c.self.view_is ∙ last in
    let f : ObservationValue → ObservationValue = λ o. with_commands o (with_last o.commands (with_uses d c.args.kind c.args.paths)) in
    on_ok_weaker c.put_last_uses.result (λ is. ap (with_commands before) is ∙ ap f c.self.view_is) (c.put_last_uses.ensures.ok d there)
