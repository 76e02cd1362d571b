use Rattle.std.proofs.Common.{◌≡◌, take}
use Rattle.rev_history.proofs.kept.KeptCells.copied.Given as goal

abbrev pub invariant-loop-index : goal.invariant-loop-index
invariant-loop-index l = l.copied.items ≡ take l.index l.self
