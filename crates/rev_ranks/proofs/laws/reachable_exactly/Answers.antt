use Rattle.rev_ranks.proofs.SetLemmas.{reachable-exactly}
use Rattle.rev_ranks.proofs.laws.reachable_exactly.Goals as goal

pub returns : goal.returns
returns c = reachable-exactly
