use Rattle.rev_dirty.proofs.SeesLemmas.{seen-are-seen}
use Rattle.rev_dirty.proofs.laws.seen_are_seen.Goals as goal

pub returns : goal.returns
returns c = seen-are-seen
