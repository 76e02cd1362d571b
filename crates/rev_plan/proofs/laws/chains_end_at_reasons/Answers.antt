use Rattle.rev_plan.proofs.PlannedLemmas.{chains-end-at-reasons}
use Rattle.rev_plan.proofs.laws.chains_end_at_reasons.Goals as goal

pub returns : goal.returns
returns c = chains-end-at-reasons
