use Rattle.std.proofs.Common.{take}
use Rattle.std.specs.Prelude.{filter}
use Rattle.rev_marks.specs.Table.{Marks, counted}
use Rattle.rev_marks.proofs.table.mark_all.Given as goal

abbrev pub invariant-loop-index : goal.invariant-loop-index
invariant-loop-index l = Marks l.initial.masks.entries l.masks.entries (filter (counted l.beside) (take l.index l.cells)) l.mask
