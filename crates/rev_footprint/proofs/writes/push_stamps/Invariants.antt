use Rattle.std.proofs.Common.{◌≡◌, ◌++◌, take}
use Rattle.rev_dirty.specs.Seen.{stamp_cells}
use Rattle.rev_footprint.proofs.writes.push_stamps.Given as goal

abbrev pub invariant-loop-path : goal.invariant-loop-path
invariant-loop-path l = l.writes.items ≡ l.initial.writes.items ++ stamp_cells (take l.path-index l.paths)
