use Rattle.std.proofs.Common.{Some, ap, sym, ◌∙◌}
use Rattle.rev_scopes.specs.Slots.{seen_slots}
use Rattle.rev_scopes.specs.Scopes.{variable_in}
use Rattle.rev_scopes.specs.Edges.{seen_edge, first_source, Known}
use Rattle.rev_scopes.proofs.SlotLemmas.{value_of-edge}
use Rattle.rev_scopes.proofs.edge_values.look_up.Goals as goal

pub returns-in-Some-value-2 : goal.returns-in-Some-value-2
returns-in-Some-value-2 c =
    let edge = seen_edge c.args.edge.now in
    let name = c.args.name.now in
    let text = c.in-Some-slot_named.slot.now.bound.now.text in
    let rule = value_of-edge edge name (seen_slots c.args.slots.now) _ c.requires.slots.rule (sym c.in-Some-slot_named.ensures) in (
      text,
      (λ i. first_source (sym c.in_default.ensures i) (sym c.in_default-value.ensures i) (rule i) (variable_in edge.scopes edge.scope name)),
      sym c.in-Some-slot_named.ensures ∙ ap (λ value. Some (record { text = text; value = value })) c.in-Some-value-2.is,
    )

pub returns-in-None-value : goal.returns-in-None-value
returns-in-None-value c =
    let edge = seen_edge c.args.edge.now in
    let name = c.args.name.now in
    let text = c.in-Some-slot_named.slot.now.bound.now.text in
    let rule = value_of-edge edge name (seen_slots c.args.slots.now) _ c.requires.slots.rule (sym c.in-Some-slot_named.ensures) in
    record {
      text = text;
      needs = (λ i. first_source (sym c.in_default.ensures i) (sym c.in_default-value.ensures i) (rule i) (variable_in edge.scopes edge.scope name));
      unknown = sym c.in-Some-slot_named.ensures ∙ ap (λ value. Some (record { text = text; value = value })) c.in-None-value.is;
    }

pub returns-in-None : goal.returns-in-None
returns-in-None c =
    let edge = seen_edge c.args.edge.now in
    let name = c.args.name.now in
    let rule = value_of-edge edge name (seen_slots c.args.slots.now) _ c.requires.slots.rule (sym c.in-None.ensures) in
    (λ i. first_source (sym c.in_default.ensures i) (sym c.in_default-value.ensures i) (rule i) (variable_in edge.scopes edge.scope name))
    ∙ ap Known (sym c.variable.ensures)
