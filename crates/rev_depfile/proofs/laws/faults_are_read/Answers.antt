use Rattle.rev_depfile.proofs.ReadingLemmas.{faults-read}
use Rattle.rev_depfile.proofs.laws.faults_are_read.Goals as goal

pub returns : goal.returns
returns c = faults-read
