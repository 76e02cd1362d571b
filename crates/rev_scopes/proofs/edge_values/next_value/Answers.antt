use Rattle.std.proofs.Common.{◌++◌, ◌∷◌, [], List, ap, sym, ◌∙◌, subst, take}
use Rattle.std.proofs.lemmas.List.{take_more, take_all}
use Rattle.rev_scopes.specs.declared.slots.Slot.{Slot}
use Rattle.rev_scopes.specs.Edges.{seen_edge}
use Rattle.rev_scopes.specs.Slots.{seen_slots, IsWaiting}
use Rattle.rev_scopes.proofs.SlotLemmas.{Stuck, stuck-push, stuck-at}
use Rattle.rev_scopes.proofs.edge_values.next_value.Goals as goal

pub loop-place-preserved : goal.loop-place-preserved
loop-place-preserved c = λ all.
    let waiting = IsWaiting (seen_edge c.args.edge.now) (seen_slots c.args.slots.now) in
    let slots = c.args.slots.now in
    let i = c.loop-place.place in
    let slot = c.index-slots-place.result in
    let waits = rw c.in_default.is at c.in_ok-value.ensures.waits in
    subst (λ (xs : List Slot). Stuck waiting (seen_slots xs)) (ap (λ (x : Slot). take i slots ++ x ∷ []) c.index-slots-place.is ∙ sym (take_more slots i slot c.loop-place-test.true))
    (stuck-push waiting (take i slots) slot (c.loop-place.invariant all) (waits all))

pub returns-clause-stuck : goal.returns-clause-stuck
returns-clause-stuck c = λ all name text is.
    let waiting = IsWaiting (seen_edge c.args.edge.now) (seen_slots c.args.slots.now) in
    let slots = c.args.slots.now in
    stuck-at waiting (seen_slots slots)
    (subst (λ (xs : List Slot). Stuck waiting (seen_slots xs)) (take_all c.loop-place.place slots c.loop-place-test.false) (c.loop-place.invariant all)) name text is
