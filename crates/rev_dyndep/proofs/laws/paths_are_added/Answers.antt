use Rattle.rev_dyndep.proofs.OriginLemmas.{paths-added}
use Rattle.rev_dyndep.proofs.laws.paths_are_added.Goals as goal

pub returns : goal.returns
returns c = paths-added
