use Rattle.rev_world.proofs.SearchingLemmas.{searchers-may-ask}
use Rattle.rev_world.proofs.laws.searchers_may_ask.Goals as goal

pub returns : goal.returns
returns c = searchers-may-ask
