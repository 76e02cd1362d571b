use Rattle.rev_world.proofs.PremiseLemmas.{looks-count}
use Rattle.rev_world.proofs.laws.looks_count.Goals as goal

pub returns : goal.returns
returns c = looks-count
