use Rattle.std.proofs.Common.{◌≡◌, ◌++◌, take, map}
use Rattle.std.specs.List.{flat_map}
use Rattle.rev_patch.specs.Lines.{line_of}
use Rattle.rev_patch.specs.Patch.{told}
use Rattle.rev_patch.proofs.hunks.push_lines.Given as goal

abbrev pub invariant-loop-row : goal.invariant-loop-row
invariant-loop-row l = l.patch.items ≡ l.initial.patch.items ++ flat_map told (map line_of (take l.row-index l.rows))
