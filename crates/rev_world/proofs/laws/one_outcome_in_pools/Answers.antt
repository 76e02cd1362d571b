use Rattle.rev_world.proofs.OutcomeLemmas.{one-outcome-in-pools}
use Rattle.rev_world.proofs.laws.one_outcome_in_pools.Goals as goal

pub returns : goal.returns
returns c = one-outcome-in-pools
