use Rattle.std.proofs.Common.{◌≡◌, None, drop}
use Rattle.rev_ranks.specs.Sets.{is_marked}
use Rattle.rev_queries.specs.Critical.{latest_from}
use Rattle.rev_queries.proofs.chain.latest_marked.Given as goal

-- the last of those so far, and of those that are left
abbrev pub invariant-loop-run : goal.invariant-loop-run
invariant-loop-run l =
    latest_from (λ r. is_marked l.marks r.edge) l.best (drop l.run-index l.runs)
    ≡ latest_from (λ r. is_marked l.marks r.edge) None l.runs
