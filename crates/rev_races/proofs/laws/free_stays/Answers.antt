use Rattle.rev_races.proofs.FreeLemmas.{free-stays}
use Rattle.rev_races.proofs.laws.free_stays.Goals as goal

pub returns : goal.returns
returns c = free-stays
