use Rattle.rev_world.proofs.OutcomeLemmas.{one-outcome}
use Rattle.rev_world.proofs.laws.one_outcome.Goals as goal

pub returns : goal.returns
returns c = one-outcome
