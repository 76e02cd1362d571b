use Rattle.rev_syntax.proofs.GrammarLemmas.{texts-read}
use Rattle.rev_syntax.proofs.laws.texts_are_read.Goals as goal

pub returns : goal.returns
returns c = texts-read
