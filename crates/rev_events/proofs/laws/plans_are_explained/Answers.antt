use Rattle.rev_events.proofs.PlannedState.{plans-are-explained}
use Rattle.rev_events.proofs.laws.plans_are_explained.Goals as goal

pub returns : goal.returns
returns c = plans-are-explained
