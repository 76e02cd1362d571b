use Rattle.rev_world.proofs.WayLemmas.{ways-are-told}
use Rattle.rev_world.proofs.laws.ways_are_told.Goals as goal

pub returns : goal.returns
returns c = ways-are-told
