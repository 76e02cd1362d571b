use Rattle.std.proofs.Common.{◌≡◌, ℕ, ◌<◌, None, get_or, length, take}
use Rattle.rev_looked.specs.Ranges.{has_path, noted}
use Rattle.rev_looked.proofs.ranges.note_ranges.Given as goal

-- those of the ranges so far
abbrev pub invariant-loop-range : goal.invariant-loop-range
invariant-loop-range g l =
    (p : ℕ) → p < length l.initial.notes → get_or l.notes p None
    ≡ noted (has_path (take l.range-index l.ranges) p) l.value (get_or l.initial.notes p None)
