use Rattle.std.proofs.Common.{◌≡◌, ◌++◌, take}
use Rattle.std.specs.List.{flat_map}
use Rattle.rev_picture.specs.Picture.{tick_text}
use Rattle.rev_picture.proofs.axis.push_ticks.Given as goal

-- those so far were added
abbrev pub invariant-loop-tick : goal.invariant-loop-tick
invariant-loop-tick l = l.text.items ≡ l.initial.text.items ++ flat_map (tick_text l.rows) (take l.tick-index l.ticks)
