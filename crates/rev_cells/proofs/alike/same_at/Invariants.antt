use Rattle.std.proofs.Common.{◌≡◌}
use Rattle.std.specs.Map.{keys_of}
use Rattle.rev_cells.specs.Alike.{same_at as same_at_all}
use Rattle.rev_cells.proofs.alike.same_at.Given as goal

-- what is left decides
abbrev pub invariant-loop-cell : goal.invariant-loop-cell
invariant-loop-cell l = same_at_all l.cell-iterator l.entries.entries l.others.entries ≡ same_at_all (keys_of l.cells.entries) l.entries.entries l.others.entries
