use Rattle.std.proofs.Common.{◌≡◌, ◌++◌, map, length}
use Rattle.std.specs.Prelude.{All}
use Rattle.rev_undeclared.specs.Answer.{undeclared_key}
use Rattle.rev_undeclared.specs.Tables.{IsOfUndeclared}
use Rattle.rev_undeclared.proofs.found.told_of.Given as goal

abbrev pub invariant-loop-key : goal.invariant-loop-key
invariant-loop-key l = record {
  keys : map undeclared_key l.told.items ++ l.left.keys ≡ l.initial.left.keys;
  fit : All IsOfUndeclared l.left.keys;
}

abbrev pub decreases-loop-key : goal.decreases-loop-key
decreases-loop-key l = length l.left.keys
