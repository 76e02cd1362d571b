use Rattle.rev_races.proofs.EndingLemmas.{contained-marked, one-marked}
use Rattle.rev_races.proofs.endings.mark_endings.Goals as goal

pub loop-path-preserved : goal.loop-path-preserved
loop-path-preserved c =
    one-marked c.args.paths.now c.args.marks.now.items c.loop-path.marks.items c.mark_ending.new.marks.items
    c.loop-path.path-index c.path-item.result c.loop-path-test.true c.path-item.is c.mark_ending.ensures.size
    c.mark_ending.ensures.kept c.mark_ending.ensures.marked c.loop-path.invariant

pub returns-clause-marked : goal.returns-clause-marked
returns-clause-marked c = λ path is.
    contained-marked c.args.paths.now c.args.marks.now.items c.loop-path.marks.items c.loop-path.path-index path
    c.loop-path-test.false c.loop-path.invariant is
