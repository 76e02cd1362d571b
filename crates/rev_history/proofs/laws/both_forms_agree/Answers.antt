use Rattle.rev_causal.proofs.ByNumber as by_number
use Rattle.rev_footprint.specs.Machine.{machine}
use Rattle.rev_footprint.proofs.Local.{machine-local}
use Rattle.rev_history.proofs.laws.both_forms_agree.Goals as goal

pub returns : goal.returns
returns c = λ manifest jobs. by_number.both_forms_agree (machine manifest jobs) (machine-local manifest jobs)
