use Rattle.rev_depfile.proofs.SpellingLemmas.{lists-spelled}
use Rattle.rev_depfile.proofs.laws.lists_are_spelled.Goals as goal

pub returns : goal.returns
returns c = lists-spelled
