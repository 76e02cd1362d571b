use Rattle.rev_scopes.proofs.LawLemmas.{needs_itself}
use Rattle.rev_scopes.proofs.laws.what_needs_itself_has_no_value.Goals as goal

pub returns : goal.returns
returns c = needs_itself
