use Rattle.rev_queries.proofs.OwnLemmas.{greatest_next}
use Rattle.rev_queries.proofs.own.greatest.Goals as goal

pub loop-stamp-preserved : goal.loop-stamp-preserved
loop-stamp-preserved c =
    greatest_next c.args.stamps.now c.loop-stamp.stamp-index _ c.loop-stamp.greatest c.greater-greatest.result c.loop-stamp-test.true c.greater-greatest.ensures
    c.loop-stamp.invariant
