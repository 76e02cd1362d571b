use Rattle.std.proofs.Common.{◌∙◌, ap}
use Rattle.rev_workers.specs.Waiting.{kept_waiting}
use Rattle.rev_workers.proofs.Sets.{mapped-more, mapped-next}
use Rattle.rev_workers.proofs.standing.keep_waiting.Goals as goal

pub loop-standing-preserved : goal.loop-standing-preserved
loop-standing-preserved c =
    let f = kept_waiting c.args.entries in
    let same = mapped-next f c.args.standings.now c.loop-standing.standings c.loop-standing.standing-index _ c.loop-standing-test.true c.loop-standing.invariant in
    mapped-more f c.args.standings.now c.loop-standing.standings c.loop-standing.standing-index _ c.keep_one.new.standing
    c.loop-standing-test.true c.loop-standing.invariant (c.keep_one.ensures ∙ ap f same)
