use Rattle.rev_footprint.proofs.Local.{table-local}
use Rattle.rev_footprint.proofs.laws.events_are_local.Goals as goal

pub returns : goal.returns
returns c = table-local
