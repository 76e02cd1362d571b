use Rattle.rev_events.proofs.EffectLemmas.{start-adds}
use Rattle.rev_events.proofs.effects.start_effect.Goals as goal

pub returns : goal.returns
returns c =
    start-adds c.args.graph.now.manifest c.args.edge c.args.job c.args.slot c.args.cells.now.state _ _ _ _ _ _ c.in_ok-writes.ensures.items c.pool.ensures c.in_ok-seen.ensures c.in_ok-push_write.ensures
    c.in_ok-push_write-2.ensures c.in_ok-push_slot.ensures
