use Rattle.std.proofs.Common.{◌≡◌, drop}
use Rattle.std.specs.Prelude.{find}
use Rattle.rev_plan.specs.Plan.{is_own_reason}
use Rattle.rev_queries.proofs.rebuild.own_reason.Given as goal

-- none of those so far is one
abbrev pub invariant-loop-reason : goal.invariant-loop-reason
invariant-loop-reason l = find is_own_reason l.reasons ≡ find is_own_reason (drop l.reason-index l.reasons)
