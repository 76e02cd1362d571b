use Rattle.rev_races.proofs.ListLemmas.{lists-are-recorded}
use Rattle.rev_races.proofs.laws.lists_are_recorded.Goals as goal

pub returns : goal.returns
returns c = lists-are-recorded
