use Rattle.rev_history.specs.Timeline.{last_of}
use Rattle.rev_runs.specs.Runs.{IsPartial}
use Rattle.rev_runs.proofs.ran.runs.Given as goal

-- what was found of the numbers so far
abbrev pub invariant-loop-passed : goal.invariant-loop-passed
invariant-loop-passed l = IsPartial l.history.timeline (last_of l.history.timeline.accepted) l.passed l.ends l.runs.items
