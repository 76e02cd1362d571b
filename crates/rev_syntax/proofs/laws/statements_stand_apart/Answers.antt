use Rattle.rev_syntax.proofs.ApartLemmas.{statements-apart}
use Rattle.rev_syntax.proofs.laws.statements_stand_apart.Goals as goal

pub returns : goal.returns
returns c = statements-apart
