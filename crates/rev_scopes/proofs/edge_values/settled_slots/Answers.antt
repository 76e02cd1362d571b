use Rattle.std.proofs.Common.{List, refl, subst}
use Rattle.rev_scopes.specs.declared.slots.Slot.{Slot}
use Rattle.rev_scopes.specs.RuleNames.{name_of}
use Rattle.rev_scopes.specs.Edges.{seen_edge}
use Rattle.rev_scopes.specs.Slots.{seen_slots, IsWaiting}
use Rattle.rev_scopes.proofs.SlotLemmas.{unknown-are, stuck_name}
use Rattle.rev_scopes.proofs.edge_values.settled_slots.Goals as goal

pub settled-requires : goal.settled-requires
settled-requires c = record { slots = unknown-are (seen_edge c.args.edge.now) (seen_slots c.in_ok-slots.slots.items) c.in_ok-slots.ensures }

pub returns-then-waits-clause-needs_itself : goal.returns-then-waits-clause-needs_itself
returns-then-waits-clause-needs_itself c = λ _.
    let edge = seen_edge c.args.edge.now in
    let slots = seen_slots c.in_ok-slots-3.slots.items in
    let some = c.waits-2.ensures.some c.if-waits.true in
    let waiting = subst (λ (xs : List Slot). IsWaiting edge (seen_slots xs) (name_of some.0)) c.deref-2.ensures.value some.2 in
    (some.0, some.1, stuck_name edge slots (c.in_ok-slots-3.ensures.stuck refl) (name_of some.0) waiting)
