use Rattle.std.proofs.Common.{◌≡◌, take, map}
use Rattle.std.specs.List.{flat_map}
use Rattle.rev_patch.specs.Lines.{new_text, line_of}
use Rattle.rev_patch.proofs.changes.changed_text.Given as goal

abbrev pub invariant-loop-row : goal.invariant-loop-row
invariant-loop-row l = l.changed.items ≡ flat_map new_text (map line_of (take l.row-index l.row-items))
