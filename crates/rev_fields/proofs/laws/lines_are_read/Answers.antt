use Rattle.rev_fields.proofs.LawLemmas.{lines-are-read}
use Rattle.rev_fields.proofs.laws.lines_are_read.Goals as goal

pub returns : goal.returns
returns c = lines-are-read
