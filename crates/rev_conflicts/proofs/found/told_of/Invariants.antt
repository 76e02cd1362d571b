use Rattle.std.proofs.Common.{◌≡◌, ◌++◌, map, length}
use Rattle.std.specs.Prelude.{All}
use Rattle.rev_conflicts.specs.Tables.{IsOfMeet, told_key}
use Rattle.rev_conflicts.proofs.found.told_of.Given as goal

abbrev pub invariant-loop-key : goal.invariant-loop-key
invariant-loop-key l = record {
  keys : map told_key l.told.items ++ l.left.keys ≡ l.initial.left.keys;
  fit : All IsOfMeet l.left.keys;
}

abbrev pub decreases-loop-key : goal.decreases-loop-key
decreases-loop-key l = length l.left.keys
