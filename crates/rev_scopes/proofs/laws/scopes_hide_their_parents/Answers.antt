use Rattle.rev_scopes.proofs.LawLemmas.{variable-step}
use Rattle.rev_scopes.proofs.laws.scopes_hide_their_parents.Goals as goal

pub returns : goal.returns
returns c = variable-step
