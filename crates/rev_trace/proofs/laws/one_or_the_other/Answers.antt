use Rattle.rev_trace.proofs.SaysLemmas.{one-or-the-other}
use Rattle.rev_trace.proofs.laws.one_or_the_other.Goals as goal

pub returns : goal.returns
returns c = one-or-the-other
