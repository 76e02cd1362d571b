use Rattle.std.proofs.Common.{◌≡◌, ◌++◌, map, length}
use Rattle.std.specs.Prelude.{All}
use Rattle.rev_unlisted.specs.Answer.{unlisted_key}
use Rattle.rev_unlisted.specs.Found.{IsOfUnlisted}
use Rattle.rev_unlisted.proofs.found.told_of.Given as goal

abbrev pub invariant-loop-key : goal.invariant-loop-key
invariant-loop-key l = record {
  keys : map unlisted_key l.told.items ++ l.left.keys ≡ l.initial.left.keys;
  fit : All IsOfUnlisted l.left.keys;
}

abbrev pub decreases-loop-key : goal.decreases-loop-key
decreases-loop-key l = length l.left.keys
