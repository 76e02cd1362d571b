use Rattle.rev_world.proofs.PremiseLemmas.{folders-count}
use Rattle.rev_world.proofs.laws.folders_count.Goals as goal

pub returns : goal.returns
returns c = folders-count
