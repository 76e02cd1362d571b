use Rattle.rev_graph.proofs.DecidedLemmas.{fault-decided, faultless-decided, decided-fault, decided-faultless}
use Rattle.rev_graph.proofs.laws.fault_is_decided.Goals as goal

pub returns : goal.returns
returns c = record {
  fault = λ builds fault other. (decided-fault builds fault, fault-decided builds fault other);
  faultless = λ builds. (decided-faultless builds, faultless-decided builds);
}
