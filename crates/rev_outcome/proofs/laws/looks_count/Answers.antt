use Rattle.rev_outcome.proofs.PremiseLemmas.{looks-count}
use Rattle.rev_outcome.proofs.laws.looks_count.Goals as goal

pub returns : goal.returns
returns c = looks-count
