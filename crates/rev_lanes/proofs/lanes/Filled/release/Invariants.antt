use Rattle.std.proofs.Common.{◌≡◌}
use Rattle.rev_lanes.proofs.lanes.Filled.release.Given as goal

-- no end changes
abbrev pub invariant-loop : goal.invariant-loop
invariant-loop l = l.self.ends ≡ l.fn.self.ends
