use Rattle.rev_world.proofs.PremiseLemmas.{links-count}
use Rattle.rev_world.proofs.laws.links_count.Goals as goal

pub returns : goal.returns
returns c = links-count
