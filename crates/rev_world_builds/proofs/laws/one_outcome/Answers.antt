use Rattle.rev_world_builds.proofs.BuildLemmas.{one-outcome}
use Rattle.rev_world_builds.proofs.laws.one_outcome.Goals as goal

pub returns : goal.returns
returns c = one-outcome
