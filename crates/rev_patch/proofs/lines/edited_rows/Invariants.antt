use Rattle.std.proofs.Common.{◌≡◌, take, map}
use Rattle.rev_patch.specs.Lines.{edited, edits, line_of}
use Rattle.rev_patch.proofs.lines.edited_rows.Given as goal

abbrev pub invariant-loop-change : goal.invariant-loop-change
invariant-loop-change l = map line_of l.rows.items ≡ edited l.text (edits (take l.change-index l.changes))
