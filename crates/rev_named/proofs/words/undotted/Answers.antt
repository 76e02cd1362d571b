use Rattle.rev_named.proofs.WordLemmas.{no-dot-left, one-dot-less}
use Rattle.rev_named.proofs.words.undotted.Goals as goal

pub returns-then-last-ne46 : goal.returns-then-last-ne46
returns-then-last-ne46 c =
    no-dot-left c.loop-last.rest.now c.in-Some.before.now c.args.piece.now c.in-Some.last.now c.in-Some.ensures.cases.0 c.if-last-ne46.true c.loop-last.invariant

pub loop-last-preserved : goal.loop-last-preserved
loop-last-preserved c =
    one-dot-less c.loop-last.rest.now c.in-Some.before.now c.args.piece.now c.in-Some.last.now c.in-Some.ensures.cases.0 c.if-last-ne46.false c.loop-last.invariant
