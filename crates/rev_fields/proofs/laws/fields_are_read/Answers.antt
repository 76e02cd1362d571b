use Rattle.rev_fields.proofs.GrammarLemmas.{fields-are-read}
use Rattle.rev_fields.proofs.laws.fields_are_read.Goals as goal

pub returns : goal.returns
returns c = fields-are-read
