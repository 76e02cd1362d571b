use Rattle.rev_syntax.proofs.CutLemmas.{lines-cut}
use Rattle.rev_syntax.proofs.laws.lines_are_cut.Goals as goal

pub returns : goal.returns
returns c = lines-cut
