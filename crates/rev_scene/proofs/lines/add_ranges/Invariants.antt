use Rattle.std.proofs.Common.{◌≡◌, ◌++◌, map, take}
use Rattle.rev_scene.specs.Lines.{act_at}
use Rattle.rev_scene.proofs.lines.add_ranges.Given as goal

abbrev pub invariant-loop-range : goal.invariant-loop-range
invariant-loop-range l = l.deeds.items ≡ l.initial.deeds.items ++ map (act_at l.word) (take l.range-index l.ranges)
