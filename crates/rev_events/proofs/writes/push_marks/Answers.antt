use Rattle.rev_events.proofs.AddsLemmas.{mark-added}
use Rattle.rev_events.proofs.writes.push_marks.Goals as goal

pub loop-edge-preserved : goal.loop-edge-preserved
loop-edge-preserved c =
    mark-added c.args.writes.now.items c.loop-edge.writes.items c.push_write.new.writes.items c.args.marks.now c.loop-edge.edge c.index-marks-edge.result _ c.loop-edge-test.true
    c.index-marks-edge.is c.in_ok-copy.ensures c.loop-edge.invariant c.in_ok-push_write.ensures
