use Rattle.rev_graph.proofs.StepLemmas.{ranked-acyclic}
use Rattle.rev_graph.proofs.laws.ranked_is_acyclic.Goals as goal

pub returns : goal.returns
returns c = ranked-acyclic
