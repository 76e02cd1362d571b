use Rattle.rev_world_histories.proofs.PoolLemmas.{one-outcome-of-histories-in-pools}
use Rattle.rev_world_histories.proofs.laws.one_outcome_of_histories_in_pools.Goals as goal

pub returns : goal.returns
returns c = one-outcome-of-histories-in-pools
