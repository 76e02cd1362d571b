use Rattle.std.proofs.Common.{◌≡◌, ◌&&◌, ℕ, take}
use Rattle.std.specs.List.{list_any}
use Rattle.rev_marks.specs.Masks.{has_mark}
use Rattle.rev_marks.specs.Table.{counted, is_marked}
use Rattle.rev_marks.proofs.table.marks_at.Given as goal

abbrev pub invariant-loop-index : goal.invariant-loop-index
invariant-loop-index l = (i : ℕ) → has_mark i l.marks ≡ list_any (λ c. counted l.beside c && is_marked l.masks.entries i c) (take l.index l.cells)
