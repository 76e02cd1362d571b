use Rattle.rev_manifest.proofs.EndLemmas.{derived, at_derived}
use Rattle.rev_manifest.proofs.laws.values_are_derived.Goals as goal

pub returns : goal.returns
returns c = λ edge name value. (at_derived edge name value, derived edge name value)
