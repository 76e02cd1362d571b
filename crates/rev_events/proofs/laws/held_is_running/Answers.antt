use Rattle.rev_events.proofs.HeldEvents.{held-is-running}
use Rattle.rev_events.proofs.laws.held_is_running.Goals as goal

pub returns : goal.returns
returns c = held-is-running
