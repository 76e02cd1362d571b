use Rattle.rev_syntax.proofs.StatementLemmas.{statements-read}
use Rattle.rev_syntax.proofs.laws.statements_are_read.Goals as goal

pub returns : goal.returns
returns c = statements-read
