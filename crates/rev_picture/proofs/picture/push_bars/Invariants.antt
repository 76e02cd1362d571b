use Rattle.std.proofs.Common.{◌≡◌, ◌++◌, take}
use Rattle.std.specs.List.{flat_map}
use Rattle.rev_picture.specs.Picture.{bar_text}
use Rattle.rev_picture.proofs.picture.push_bars.Given as goal

-- those so far were added
abbrev pub invariant-loop-bar : goal.invariant-loop-bar
invariant-loop-bar l = l.text.items ≡ l.initial.text.items ++ flat_map bar_text (take l.bar-index l.bars)
