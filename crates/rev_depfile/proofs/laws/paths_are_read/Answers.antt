use Rattle.rev_depfile.proofs.ReadingLemmas.{paths-read}
use Rattle.rev_depfile.proofs.laws.paths_are_read.Goals as goal

pub returns : goal.returns
returns c = paths-read
