use Rattle.std.proofs.Common.{◌∙◌, sym}
use Rattle.rev_events.proofs.SlotLemmas.{held-next}
use Rattle.rev_events.proofs.pools.first_held.Goals as goal

pub loop-slot-preserved : goal.loop-slot-preserved
loop-slot-preserved c =
    c.loop-slot.invariant
    ∙ held-next c.args.cells.now.state c.args.pool c.loop-slot.slot c.args.slots.end c.loop-slot-test.true (sym c.slot_holder.ensures ∙ c.in_default.is)
