use Rattle.rev_ranks.proofs.LeadsLemmas.{leads-exactly}
use Rattle.rev_ranks.proofs.laws.leads_exactly.Goals as goal

pub returns : goal.returns
returns c = leads-exactly
