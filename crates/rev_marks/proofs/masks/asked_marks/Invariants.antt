use Rattle.std.proofs.Common.{◌≡◌, ℕ, take}
use Rattle.rev_marks.specs.Masks.{has_mark, is_asked}
use Rattle.rev_marks.proofs.masks.asked_marks.Given as goal

abbrev pub invariant-loop-place : goal.invariant-loop-place
invariant-loop-place l = (i : ℕ) → has_mark i l.marks ≡ is_asked (take l.place l.asked) i l.number
