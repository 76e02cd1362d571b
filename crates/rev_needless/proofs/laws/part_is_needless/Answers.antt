use Rattle.rev_needless.proofs.LawLemmas.{part-is-needless}
use Rattle.rev_needless.proofs.laws.part_is_needless.Goals as goal

pub returns : goal.returns
returns c = part-is-needless
