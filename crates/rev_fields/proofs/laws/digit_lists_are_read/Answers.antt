use Rattle.rev_fields.proofs.GrammarLemmas.{digit-lists-are-read}
use Rattle.rev_fields.proofs.laws.digit_lists_are_read.Goals as goal

pub returns : goal.returns
returns c = digit-lists-are-read
