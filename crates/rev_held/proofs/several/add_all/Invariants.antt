use Rattle.std.proofs.Common.{List, ◌++◌, take}
use Rattle.rev_cells.specs.declared.cell.Cell.{Cell}
use Rattle.rev_held.specs.Several.{FindsAs}
use Rattle.rev_held.proofs.several.add_all.Given as goal

abbrev pub invariant-loop-index : goal.invariant-loop-index
invariant-loop-index l = (before : List Cell) → FindsAs l.initial.set.keys before → FindsAs l.set.keys (before ++ take l.index l.cells)
