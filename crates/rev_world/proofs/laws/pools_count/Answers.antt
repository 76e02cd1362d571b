use Rattle.rev_world.proofs.PoolPremiseLemmas.{pools-count}
use Rattle.rev_world.proofs.laws.pools_count.Goals as goal

pub returns : goal.returns
returns c = pools-count
