use Rattle.rev_footprint.proofs.Local.{machine-local}
use Rattle.rev_footprint.proofs.laws.machine_is_local.Goals as goal

pub returns : goal.returns
returns c = machine-local
