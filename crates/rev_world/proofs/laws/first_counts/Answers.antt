use Rattle.rev_world.proofs.PremiseLemmas.{first-counts}
use Rattle.rev_world.proofs.laws.first_counts.Goals as goal

pub returns : goal.returns
returns c = first-counts
