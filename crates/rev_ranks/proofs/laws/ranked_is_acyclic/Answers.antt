use Rattle.rev_ranks.proofs.Ways.{ranked-acyclic}
use Rattle.rev_ranks.proofs.laws.ranked_is_acyclic.Goals as goal

pub returns : goal.returns
returns c = λ graph ranks are n r. ranked-acyclic graph ranks are.falls n r
