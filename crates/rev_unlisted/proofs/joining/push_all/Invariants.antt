use Rattle.std.proofs.Common.{◌≡◌, ◌++◌, take}
use Rattle.rev_unlisted.proofs.joining.push_all.Given as goal

abbrev pub invariant-loop-name : goal.invariant-loop-name
invariant-loop-name l = l.all.items ≡ l.initial.all.items ++ take l.name-index l.names
