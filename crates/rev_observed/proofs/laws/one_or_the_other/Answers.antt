use Rattle.rev_observed.proofs.LawLemmas.{one-or-the-other}
use Rattle.rev_observed.proofs.laws.one_or_the_other.Goals as goal

pub returns : goal.returns
returns c = one-or-the-other
