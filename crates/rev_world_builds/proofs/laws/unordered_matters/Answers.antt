use Rattle.rev_world_builds.proofs.DifferLemmas.{unordered-matters}
use Rattle.rev_world_builds.proofs.laws.unordered_matters.Goals as goal

pub returns : goal.returns
returns c = unordered-matters
