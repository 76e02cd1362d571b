use Rattle.std.proofs.Common.{◌≡◌, ◌++◌, length}
use Rattle.std.specs.List.{flat_map}
use Rattle.rev_patch.specs.Lines.{edited, edits}
use Rattle.rev_patch.specs.Patch.{are_near, hunk, patch_of}
use Rattle.rev_patch.specs.Runs.{runs}
use Rattle.rev_patch.proofs.hunks.patch_text.Given as goal

-- what is written, with the hunks of the changes that are left
abbrev pub invariant-loop-rest : goal.invariant-loop-rest
invariant-loop-rest l =
    l.patch.items ++ flat_map (hunk (edited l.text (edits l.changes))) (runs are_near (edits l.rest))
    ≡ patch_of l.name (edited l.text (edits l.changes)) (edits l.changes)

abbrev pub decreases-loop-rest : goal.decreases-loop-rest
decreases-loop-rest l = length l.rest
