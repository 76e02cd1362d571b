use Rattle.rev_syntax.proofs.StatementPlaces.{places-one}
use Rattle.rev_syntax.proofs.laws.places_are_one.Goals as goal

pub returns : goal.returns
returns c = places-one
