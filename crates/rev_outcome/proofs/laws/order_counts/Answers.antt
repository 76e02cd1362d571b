use Rattle.rev_outcome.proofs.PremiseLemmas.{order-counts}
use Rattle.rev_outcome.proofs.laws.order_counts.Goals as goal

pub returns : goal.returns
returns c = order-counts
