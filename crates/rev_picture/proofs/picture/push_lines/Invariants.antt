use Rattle.std.proofs.Common.{◌≡◌, ◌++◌, take}
use Rattle.std.specs.List.{flat_map}
use Rattle.rev_picture.specs.Picture.{line_text}
use Rattle.rev_picture.proofs.picture.push_lines.Given as goal

-- those so far were added
abbrev pub invariant-loop-line : goal.invariant-loop-line
invariant-loop-line l = l.text.items ≡ l.initial.text.items ++ flat_map line_text (take l.line-index l.lines)
