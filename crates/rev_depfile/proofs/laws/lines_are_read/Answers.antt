use Rattle.rev_depfile.proofs.CutLemmas.{depfiles-read}
use Rattle.rev_depfile.proofs.laws.lines_are_read.Goals as goal

pub returns : goal.returns
returns c = depfiles-read
