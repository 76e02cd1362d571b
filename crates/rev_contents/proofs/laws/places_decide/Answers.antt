use Rattle.rev_contents.proofs.Places.{places-decide}
use Rattle.rev_contents.proofs.laws.places_decide.Goals as goal

pub returns : goal.returns
returns c = places-decide
