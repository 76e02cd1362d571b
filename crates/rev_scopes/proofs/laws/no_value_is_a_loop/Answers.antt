use Rattle.rev_scopes.proofs.ItselfLemmas.{no_value_is_a_loop}
use Rattle.rev_scopes.proofs.laws.no_value_is_a_loop.Goals as goal

pub returns : goal.returns
returns c = no_value_is_a_loop
