use Rattle.rev_contents.proofs.Together.{explained-together}
use Rattle.rev_contents.proofs.laws.explained_together.Goals as goal

pub returns : goal.returns
returns c = explained-together
