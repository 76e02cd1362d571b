use Rattle.rev_scopes.proofs.ItselfLemmas.{no_value_leads}
use Rattle.rev_scopes.proofs.laws.no_value_means_a_loop.Goals as goal

pub returns : goal.returns
returns c = no_value_leads
