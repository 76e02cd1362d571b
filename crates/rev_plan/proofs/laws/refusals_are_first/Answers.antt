use Rattle.rev_plan.proofs.RefusalLemmas.{refusals-are-first}
use Rattle.rev_plan.proofs.laws.refusals_are_first.Goals as goal

pub returns : goal.returns
returns c = refusals-are-first
