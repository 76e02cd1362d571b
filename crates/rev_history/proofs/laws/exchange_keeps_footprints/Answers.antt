use Rattle.rev_causal.proofs.ByNumber as theory
use Rattle.rev_footprint.specs.Machine.{machine}
use Rattle.rev_history.proofs.laws.exchange_keeps_footprints.Goals as goal

pub returns : goal.returns
returns c = λ manifest jobs. theory.same_entries (machine manifest jobs)
