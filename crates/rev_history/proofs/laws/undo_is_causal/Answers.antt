use Rattle.rev_causal.proofs.Laws as theory
use Rattle.rev_footprint.specs.Machine.{machine}
use Rattle.rev_footprint.proofs.Local.{machine-local}
use Rattle.rev_history.proofs.laws.undo_is_causal.Goals as goal

pub returns : goal.returns
returns c = λ manifest jobs. theory.free_exactly_where_last (machine manifest jobs) (machine-local manifest jobs)
