use Rattle.std.proofs.Common.{◌≡◌, ◌++◌, drop}
use Rattle.rev_picture.specs.Picture.{rows_text}
use Rattle.rev_picture.proofs.axis.push_rows.Given as goal

-- those so far were added, and those that are left make it whole
abbrev pub invariant-loop-place : goal.invariant-loop-place
invariant-loop-place l = l.text.items ++ rows_text l.place (drop l.place l.rows) ≡ l.initial.text.items ++ rows_text 0 l.rows
