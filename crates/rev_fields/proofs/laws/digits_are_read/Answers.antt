use Rattle.rev_fields.proofs.GrammarLemmas.{digits-are-read}
use Rattle.rev_fields.proofs.laws.digits_are_read.Goals as goal

pub returns : goal.returns
returns c = digits-are-read
