use Rattle.rev_causal.proofs.Laws as theory
use Rattle.rev_footprint.specs.Machine.{machine}
use Rattle.rev_history.proofs.laws.nearest_is_least.Goals as goal

pub returns : goal.returns
returns c = λ manifest jobs. theory.nearest_is_least (machine manifest jobs)
