use Rattle.rev_graph.proofs.ProducerLemmas.{one_producer}
use Rattle.rev_graph.proofs.laws.one_producer.Goals as goal

pub returns : goal.returns
returns c = one_producer
