use Rattle.rev_trace.proofs.SaysLemmas.{faults-are-first}
use Rattle.rev_trace.proofs.laws.faults_are_first.Goals as goal

pub returns : goal.returns
returns c = faults-are-first
