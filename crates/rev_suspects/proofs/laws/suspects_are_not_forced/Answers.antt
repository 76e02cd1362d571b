use Rattle.rev_suspects.proofs.ForcedLemmas.{suspects-are-not-forced}
use Rattle.rev_suspects.proofs.laws.suspects_are_not_forced.Goals as goal

pub returns : goal.returns
returns c = suspects-are-not-forced
