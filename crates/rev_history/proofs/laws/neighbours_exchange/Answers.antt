use Rattle.rev_causal.proofs.ByNumber as theory
use Rattle.rev_footprint.specs.Machine.{machine}
use Rattle.rev_footprint.proofs.Local.{machine-local}
use Rattle.rev_history.proofs.laws.neighbours_exchange.Goals as goal

pub returns : goal.returns
returns c = λ manifest jobs. theory.neighbours_exchange (machine manifest jobs) (machine-local manifest jobs)
