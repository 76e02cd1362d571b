use Rattle.std.proofs.Common.{◌≡◌, ◌++◌, replicate}
use Rattle.rev_depfile.specs.Signs.{backslash_at}
use Rattle.rev_depfile.proofs.signs.push_backslashes.Given as goal

abbrev pub invariant-loop-k : goal.invariant-loop-k
invariant-loop-k l = l.signs.items ≡ l.initial.signs.items ++ replicate l._k (backslash_at l.at)
