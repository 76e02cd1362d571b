use Rattle.std.proofs.Common.{take}
use Rattle.rev_races.specs.Stories.{ArePlansBy}
use Rattle.rev_races.proofs.story.plan_numbers.Given as goal

abbrev pub invariant-loop-number : goal.invariant-loop-number
invariant-loop-number l = ArePlansBy l.history.timeline (take l.number-index l.history.timeline.kept) l.plans.items
