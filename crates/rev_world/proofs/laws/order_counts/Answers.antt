use Rattle.rev_world.proofs.PremiseLemmas.{order-counts}
use Rattle.rev_world.proofs.laws.order_counts.Goals as goal

pub returns : goal.returns
returns c = order-counts
