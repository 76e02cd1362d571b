use Rattle.std.proofs.Common.{◌≡◌, ℕ, ◌<◌, None, get_or, length}
use Rattle.rev_looked.specs.Ranges.{noted}
use Rattle.rev_looked.proofs.NoteLemmas.{is_past}
use Rattle.rev_looked.proofs.ranges.note_range.Given as goal

-- the paths of the range so far
abbrev pub invariant-loop-path : goal.invariant-loop-path
invariant-loop-path g l =
    (p : ℕ) → p < length l.initial.notes
    → get_or l.notes p None ≡ noted (is_past l.fn.range l.path p) l.value (get_or l.initial.notes p None)
