use Rattle.rev_outcome.proofs.DifferLemmas.{unordered-matters}
use Rattle.rev_outcome.proofs.laws.unordered_matters.Goals as goal

pub returns : goal.returns
returns c = unordered-matters
