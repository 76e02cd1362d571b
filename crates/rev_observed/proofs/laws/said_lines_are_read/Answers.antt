use Rattle.rev_observed.proofs.TextLemmas.{said-lines-are-read}
use Rattle.rev_observed.proofs.laws.said_lines_are_read.Goals as goal

pub returns : goal.returns
returns c = said-lines-are-read
