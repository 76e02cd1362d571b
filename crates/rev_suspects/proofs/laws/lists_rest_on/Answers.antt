use Rattle.rev_suspects.proofs.BasisLemmas.{lists-rest-on}
use Rattle.rev_suspects.proofs.laws.lists_rest_on.Goals as goal

pub returns : goal.returns
returns c = lists-rest-on
