use Rattle.rev_events.proofs.SameLemmas.{equal_events_are_one}
use Rattle.rev_events.proofs.laws.equal_events_are_one.Goals as goal

pub returns : goal.returns
returns c = equal_events_are_one
