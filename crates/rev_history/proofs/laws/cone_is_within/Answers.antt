use Rattle.rev_causal.proofs.ByNumber as theory
use Rattle.rev_footprint.specs.Machine.{machine}
use Rattle.rev_history.proofs.laws.cone_is_within.Goals as goal

pub returns : goal.returns
returns c = λ manifest jobs. theory.cone_is_within (machine manifest jobs)
