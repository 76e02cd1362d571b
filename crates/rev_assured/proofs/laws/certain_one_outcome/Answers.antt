use Rattle.rev_assured.proofs.AssuredLemmas.{certain-one-outcome}
use Rattle.rev_assured.proofs.laws.certain_one_outcome.Goals as goal

pub returns : goal.returns
returns c = certain-one-outcome
