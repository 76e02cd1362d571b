use Rattle.rev_causal.proofs.ByNumber as theory
use Rattle.rev_footprint.specs.Machine.{machine}
use Rattle.rev_footprint.proofs.Local.{machine-local}
use Rattle.rev_history.proofs.laws.exchange_keeps_refusals.Goals as goal

pub returns : goal.returns
returns c = λ manifest jobs. theory.same_refusals (machine manifest jobs) (machine-local manifest jobs)
