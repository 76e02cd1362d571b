use Rattle.rev_fields.proofs.LawLemmas.{number-lists-are-read}
use Rattle.rev_fields.proofs.laws.number_lists_are_read.Goals as goal

pub returns : goal.returns
returns c = number-lists-are-read
