use Rattle.std.proofs.Common.{◌≡◌, map, take}
use Rattle.rev_dirty.specs.Visible.{greatest}
use Rattle.rev_dirty.specs.Walk.{shown}
use Rattle.rev_dirty.proofs.walk.greatest_shown.Given as goal

abbrev pub invariant-loop-input : goal.invariant-loop-input
invariant-loop-input l = l.newest ≡ greatest (map (shown l.known.entries) (take l.input-index l.inputs))
