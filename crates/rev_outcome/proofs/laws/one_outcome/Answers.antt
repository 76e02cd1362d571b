use Rattle.rev_outcome.proofs.OutcomeLemmas.{one-outcome}
use Rattle.rev_outcome.proofs.laws.one_outcome.Goals as goal

pub returns : goal.returns
returns c = one-outcome
