use Rattle.rev_scopes.proofs.LawLemmas.{same_value}
use Rattle.rev_scopes.proofs.laws.other_scopes_change_nothing.Goals as goal

pub returns : goal.returns
returns c = λ edge others same name value. same_value edge others same
