use Rattle.rev_footprint.proofs.Local.{refusals-are-local}
use Rattle.rev_footprint.proofs.laws.refusals_are_local.Goals as goal

pub returns : goal.returns
returns c = refusals-are-local
