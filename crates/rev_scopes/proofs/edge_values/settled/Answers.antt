use Rattle.std.proofs.Common.{◌≡◌, ◌<◌, List, Some, ap, sym, ◌∙◌, subst, slice_get}
use Rattle.std.proofs.Math.ListN.{set}
use Rattle.std.proofs.lemmas.Option.{get_or_from_slice_get}
use Rattle.rev_scopes.specs.declared.slots.Slot.{Slot}
use Rattle.rev_scopes.specs.Edges.{seen_edge}
use Rattle.rev_scopes.specs.Slots.{seen_slots, AreOf}
use Rattle.rev_scopes.proofs.SlotLemmas.{unknown, settled-at}
use Rattle.rev_scopes.proofs.edge_values.settled.Goals as goal

pub loop-settled-smaller : goal.loop-settled-smaller
loop-settled-smaller c =
    let edge = seen_edge c.args.edge.now in
    let slots = c.loop-settled.settled.items in
    let i = c.in-Some.place in
    let known = rw c.in-Some.is at c.in_ok-place.ensures.known in
    let at : slice_get slots i ≡ Some known.0 = ap (λ (xs : List Slot). slice_get xs i) (sym c.deref.ensures.value) ∙ known.1 in
    let more = settled-at edge slots i known.0 c.in-Some.value at known.2 known.3 c.loop-settled.invariant.right in
    let same : c.index_mut.result.now ≡ known.0 = c.index_mut.ensures.value ∙ get_or_from_slice_get slots i known.0 _ at in
    subst (λ (slot : Slot). unknown (set slots i (record { bound = slot.bound; value = Some c.in-Some.value })) < unknown slots) (sym same) more.2

pub loop-settled-preserved : goal.loop-settled-preserved
loop-settled-preserved c =
    let edge = seen_edge c.args.edge.now in
    let slots = c.loop-settled.settled.items in
    let i = c.in-Some.place in
    let known = rw c.in-Some.is at c.in_ok-place.ensures.known in
    let at : slice_get slots i ≡ Some known.0 = ap (λ (xs : List Slot). slice_get xs i) (sym c.deref.ensures.value) ∙ known.1 in
    let more = settled-at edge slots i known.0 c.in-Some.value at known.2 known.3 c.loop-settled.invariant.right in
    let same : c.index_mut.result.now ≡ known.0 = c.index_mut.ensures.value ∙ get_or_from_slice_get slots i known.0 _ at in
    subst (λ (slot : Slot). AreOf edge (seen_slots (set slots i (record { bound = slot.bound; value = Some c.in-Some.value })))) (sym same)
    (record { rule = more.0 ∙ c.loop-settled.invariant.rule; right = more.1 })
