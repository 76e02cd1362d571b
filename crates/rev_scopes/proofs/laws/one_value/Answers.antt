use Rattle.rev_scopes.proofs.LawLemmas.{one_value}
use Rattle.rev_scopes.proofs.laws.one_value.Goals as goal

pub returns : goal.returns
returns c = λ edge name first second. one_value edge
