use Rattle.rev_plan.proofs.PlannedLemmas.{marks-are-of-the-sets}
use Rattle.rev_plan.proofs.laws.marks_are_of_the_sets.Goals as goal

pub returns : goal.returns
returns c = marks-are-of-the-sets
