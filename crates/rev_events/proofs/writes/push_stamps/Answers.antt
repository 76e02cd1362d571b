use Rattle.rev_events.proofs.AddsLemmas.{stamp-added}
use Rattle.rev_events.proofs.writes.push_stamps.Goals as goal

pub loop-place-preserved : goal.loop-place-preserved
loop-place-preserved c =
    stamp-added c.args.writes.now.items c.loop-place.writes.items c.push_write.new.writes.items c.args.outputs.now c.args.stamps.now c.loop-place.place c.index-outputs-place.result _ _ c.loop-place-test.true
    c.index-outputs-place.is c.in_ok-copy.ensures.equal c.stamp_at-stamp.ensures c.loop-place.invariant c.in_ok-push_write.ensures
