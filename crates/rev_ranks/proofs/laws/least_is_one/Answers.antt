use Rattle.rev_ranks.proofs.Ways.{least_is_one}
use Rattle.rev_ranks.proofs.laws.least_is_one.Goals as goal

pub returns : goal.returns
returns c = least_is_one
