use Rattle.rev_causal.proofs.ByNumber as by_number
use Rattle.rev_footprint.specs.Machine.{machine}
use Rattle.rev_history.proofs.laws.nearest_is_none.Goals as goal

pub returns : goal.returns
returns c = λ manifest jobs. by_number.nearest_is_none (machine manifest jobs)
