use Rattle.rev_causal.proofs.Laws as theory
use Rattle.rev_footprint.specs.Machine.{machine}
use Rattle.rev_footprint.proofs.Local.{machine-local}
use Rattle.rev_history.proofs.laws.exchange.Goals as goal

pub returns : goal.returns
returns c = λ manifest jobs. theory.same_result (machine manifest jobs) (machine-local manifest jobs)
