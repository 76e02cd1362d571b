use Rattle.rev_outcome.proofs.ObservedLemmas.{nothing-told-one-outcome}
use Rattle.rev_outcome.proofs.laws.nothing_told_one_outcome.Goals as goal

pub returns : goal.returns
returns c = nothing-told-one-outcome
