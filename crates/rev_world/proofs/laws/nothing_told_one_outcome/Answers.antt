use Rattle.rev_world.proofs.ObservedLemmas.{nothing-told-one-outcome}
use Rattle.rev_world.proofs.laws.nothing_told_one_outcome.Goals as goal

pub returns : goal.returns
returns c = nothing-told-one-outcome
