use Rattle.rev_events.proofs.AddsLemmas.{built-added}
use Rattle.rev_events.proofs.writes.push_built.Goals as goal

pub loop-place-preserved : goal.loop-place-preserved
loop-place-preserved c =
    built-added c.args.writes.now.items c.loop-place.writes.items c.push_write.new.writes.items c.of_shared-command.result c.seen-seen.result c.args.outputs.now c.args.flags.now c.args.stamps.now c.loop-place.place c.index-outputs-place.result _ _ c.loop-place-test.true
    c.index-outputs-place.is c.in_ok-copy.ensures.equal c.in_ok-built.ensures c.loop-place.invariant c.in_ok-push_write.ensures
