use Rattle.std.proofs.Common.{◌≡◌, ◌+◌, suc, drop, length}
use Rattle.rev_patch.specs.Additions.{same_line}
use Rattle.rev_patch.specs.Runs.{run_behind, first_run}
use Rattle.rev_patch.proofs.changes.first_statement.Given as goal

-- every addition so far is to the statement of the one before it
abbrev pub invariant-loop-number : goal.invariant-loop-number
invariant-loop-number l =
    (first_run same_line l.additions ≡ suc (l.number + run_behind same_line l.last (drop l.number l.rest)))
    × (length l.additions ≡ suc (length l.rest))
