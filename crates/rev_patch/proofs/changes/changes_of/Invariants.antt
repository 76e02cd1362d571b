use Rattle.std.proofs.Common.{◌≡◌, ◌≤◌, ◌-◌, ◌++◌, drop, length}
use Rattle.std.specs.List.{flat_map}
use Rattle.rev_patch.specs.Lines.{edits, lines_of}
use Rattle.rev_patch.specs.Additions.{edits_for, edits_of, same_line, texts_of}
use Rattle.rev_patch.specs.Runs.{runs}
use Rattle.rev_patch.proofs.changes.changes_of.Given as goal

-- the changes so far, with those for the additions that are left
abbrev pub invariant-loop-at : goal.invariant-loop-at
invariant-loop-at l =
    (edits l.changes.items ++ flat_map (edits_for (texts_of (lines_of l.text))) (runs same_line (drop l.at l.additions))
    ≡ edits_of l.text l.additions) × (l.at ≤ length l.additions)

abbrev pub decreases-loop-at : goal.decreases-loop-at
decreases-loop-at l = length l.additions - l.at
