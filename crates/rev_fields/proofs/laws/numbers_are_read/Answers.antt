use Rattle.rev_fields.proofs.LawLemmas.{numbers-are-read}
use Rattle.rev_fields.proofs.laws.numbers_are_read.Goals as goal

pub returns : goal.returns
returns c = numbers-are-read
