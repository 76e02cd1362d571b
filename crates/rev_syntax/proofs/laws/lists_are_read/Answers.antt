use Rattle.rev_syntax.proofs.ListLemmas.{lists-read}
use Rattle.rev_syntax.proofs.laws.lists_are_read.Goals as goal

pub returns : goal.returns
returns c = lists-read
