use Rattle.std.proofs.Common.{◌≡◌, true, drop}
use Rattle.rev_queries.specs.Critical.{latest_from, latest_of}
use Rattle.rev_queries.proofs.chain.latest.Given as goal

-- the last of those so far, and of those that are left
abbrev pub invariant-loop-run : goal.invariant-loop-run
invariant-loop-run l = latest_from (λ r. true) l.best (drop l.run-index l.runs) ≡ latest_of l.runs
