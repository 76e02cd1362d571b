use Rattle.rev_world.proofs.PremiseLemmas.{ensured-counts}
use Rattle.rev_world.proofs.laws.ensured_counts.Goals as goal

pub returns : goal.returns
returns c = ensured-counts
