use Rattle.rev_syntax.proofs.StatementPlaces.{statements-stop}
use Rattle.rev_syntax.proofs.laws.statements_stop_there.Goals as goal

pub returns : goal.returns
returns c = statements-stop
