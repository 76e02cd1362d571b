use Rattle.std.proofs.Common.{◌≡◌, ◌++◌, take}
use Rattle.rev_dirty.specs.Seen.{built_cells}
use Rattle.rev_footprint.proofs.writes.push_built.Given as goal

abbrev pub invariant-loop-path : goal.invariant-loop-path
invariant-loop-path l = l.writes.items ≡ l.initial.writes.items ++ built_cells (take l.path-index l.paths)
