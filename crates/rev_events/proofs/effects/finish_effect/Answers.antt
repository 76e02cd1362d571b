use Rattle.std.proofs.Common.{◌∙◌}
use Rattle.rev_events.proofs.EffectLemmas.{finish-adds}
use Rattle.rev_events.proofs.effects.finish_effect.Goals as goal

pub returns : goal.returns
returns c = λ listing same.
    finish-adds c.args.graph.now.manifest c.args.edge c.args.stamps.now listing c.args.cells.now.state _ _ _ _ _ _ c.as_slice-outputs.result.now c.as_slice-flags.result.now _
    c.new-writes.ensures.items (c.as_slice-outputs.ensures.value ∙ c.in_ok-all.ensures) (c.as_slice-flags.ensures.value ∙ c.in_ok-changes.ensures) (c.in_ok-done.ensures ∙ c.in_ok-changed.ensures)
    c.in_ok-push_write.ensures c.in_ok-push_freed.ensures c.in_ok-push_stamps.ensures c.in_ok-push_built.ensures (c.in_ok-push_deps.ensures listing same)
