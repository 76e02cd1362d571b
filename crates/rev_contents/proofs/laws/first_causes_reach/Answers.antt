use Rattle.rev_contents.proofs.Reach.{first-causes-reach}
use Rattle.rev_contents.proofs.laws.first_causes_reach.Goals as goal

pub returns : goal.returns
returns c = first-causes-reach
