use Rattle.rev_contents.proofs.Places.{served-leaves-the-same}
use Rattle.rev_contents.proofs.laws.served_leaves_the_same.Goals as goal

pub returns : goal.returns
returns c = served-leaves-the-same
