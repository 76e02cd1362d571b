use Rattle.std.proofs.Common.{◌≡◌, ◌+◌, suc, drop, length}
use Rattle.rev_patch.specs.Lines.{edits, edit_of}
use Rattle.rev_patch.specs.Patch.{are_near}
use Rattle.rev_patch.specs.Runs.{run_behind, first_run}
use Rattle.rev_patch.proofs.hunks.first_hunk.Given as goal

-- every change so far is near the one before it
abbrev pub invariant-loop-number : goal.invariant-loop-number
invariant-loop-number l =
    (first_run are_near (edits l.changes) ≡ suc (l.number + run_behind are_near (edit_of l.last) (edits (drop l.number l.rest))))
    × (length l.changes ≡ suc (length l.rest))
