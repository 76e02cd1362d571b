use Rattle.std.proofs.Common.{◌≡◌, ◌++◌, take}
use Rattle.rev_scene.specs.Lines.{acts_of}
use Rattle.rev_scene.proofs.lines.add_lines.Given as goal

abbrev pub invariant-loop-line : goal.invariant-loop-line
invariant-loop-line l = l.deeds.items ≡ l.initial.deeds.items ++ acts_of (take l.line-index l.lines)
