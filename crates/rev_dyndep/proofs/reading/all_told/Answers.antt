use Rattle.rev_syntax.specs.Statements.{statements_of}
use Rattle.rev_syntax.specs.Seen.{seen_statement}
use Rattle.rev_dyndep.specs.Told.{all_told}
use Rattle.rev_dyndep.proofs.ToldLemmas.{next_told}
use Rattle.rev_dyndep.proofs.reading.all_told.Goals as goal

pub loop-told-preserved-in_ok-push-2 : goal.loop-told-preserved-in_ok-push-2
loop-told-preserved-in_ok-push-2 c =
    let first = rw c.in-Some.is at c.in_ok-statement.ensures.first in
    rw c.in_ok-push.ensures.items (next_told c.loop-told.told.items c.in_ok-one.one (seen_statement c.in-Some.statement) (statements_of c.in-Some.after.now) (statements_of c.loop-told.rest.now) (all_told (statements_of c.args.lines.now)) c.in_ok-one.ensures first c.loop-told.invariant)
