use Rattle.rev_graph.proofs.ProducerLemmas.{double-real}
use Rattle.rev_graph.proofs.laws.doubles_are_real.Goals as goal

pub returns : goal.returns
returns c = double-real
