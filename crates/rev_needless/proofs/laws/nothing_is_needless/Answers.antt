use Rattle.rev_needless.proofs.LawLemmas.{nothing-is-needless}
use Rattle.rev_needless.proofs.laws.nothing_is_needless.Goals as goal

pub returns : goal.returns
returns c = nothing-is-needless
