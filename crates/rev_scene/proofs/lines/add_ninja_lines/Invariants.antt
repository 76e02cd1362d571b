use Rattle.std.proofs.Common.{◌≡◌, ◌++◌, take}
use Rattle.rev_scene.specs.Lines.{ninja_acts}
use Rattle.rev_scene.proofs.lines.add_ninja_lines.Given as goal

abbrev pub invariant-loop-line : goal.invariant-loop-line
invariant-loop-line l = l.deeds.items ≡ l.initial.deeds.items ++ ninja_acts (take l.line-index l.lines)
