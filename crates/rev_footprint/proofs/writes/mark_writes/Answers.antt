use Rattle.rev_events.specs.Written.{mark_writes}
use Rattle.rev_footprint.proofs.writes.mark_writes.Goals as goal

pub returns : goal.returns
unfolding mark_writes
returns c = λ state. c.in_ok-writes.ensures
