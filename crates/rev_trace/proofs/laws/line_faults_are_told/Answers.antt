use Rattle.rev_trace.proofs.LineLemmas.{line-faults-are-told}
use Rattle.rev_trace.proofs.laws.line_faults_are_told.Goals as goal

pub returns : goal.returns
returns c = line-faults-are-told
