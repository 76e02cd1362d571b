use Rattle.rev_world_histories.proofs.HistoryLemmas.{one-outcome-of-histories}
use Rattle.rev_world_histories.proofs.laws.one_outcome_of_histories.Goals as goal

pub returns : goal.returns
returns c = one-outcome-of-histories
