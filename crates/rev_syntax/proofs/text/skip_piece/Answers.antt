use Rattle.rev_syntax.proofs.PieceLemmas.{dollar-fault}
use Rattle.rev_syntax.proofs.text.skip_piece.Goals as goal

pub returns-in-Some-clause-fault : goal.returns-in-Some-clause-fault
returns-in-Some-clause-fault c = dollar-fault c.args.byte c.args.after.now (c.in-Some.field-0-0, c.in-Some.left) c.if-byte-ne36.false c.in-Some.ensures.escape
