use Rattle.std.proofs.Common.{◌∙◌}
use Rattle.rev_events.proofs.EffectLemmas.{end-adds}
use Rattle.rev_events.proofs.effects.end_effect.Goals as goal

pub returns : goal.returns
returns c =
    end-adds c.args.graph.now.manifest c.args.edge c.args.stamps.now c.args.ended c.args.cells.now.state _ _ _ _ c.as_slice-outputs.result.now c.new-writes.ensures.items
    (c.as_slice-outputs.ensures.value ∙ c.in_ok-paths.ensures) c.in_ok-push_write.ensures c.in_ok-push_freed.ensures c.in_ok-push_stamps.ensures
