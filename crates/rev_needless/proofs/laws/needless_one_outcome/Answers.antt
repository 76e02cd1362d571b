use Rattle.rev_needless.proofs.LawLemmas.{needless-one-outcome}
use Rattle.rev_needless.proofs.laws.needless_one_outcome.Goals as goal

pub returns : goal.returns
returns c = needless-one-outcome
