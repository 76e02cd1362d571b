use Rattle.rev_dirty.proofs.SeesLemmas.{seen-paths-decide}
use Rattle.rev_dirty.proofs.laws.seen_paths_decide.Goals as goal

pub returns : goal.returns
returns c = seen-paths-decide
