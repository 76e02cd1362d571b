use Rattle.rev_held.proofs.WayLemmas.{ways-are-all}
use Rattle.rev_held.proofs.laws.ways_are_all.Goals as goal

pub returns : goal.returns
returns c = ways-are-all
