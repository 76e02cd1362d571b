use Rattle.rev_dirty.proofs.VisibleLemmas.{shows-through}
use Rattle.rev_dirty.proofs.laws.shows_through.Goals as goal

pub returns : goal.returns
returns c = shows-through
