use Rattle.std.proofs.Common.{◌≡◌, ◌++◌}
use Rattle.rev_manifest.proofs.statements.more_defaults.Given as goal

abbrev pub invariant-loop-name : goal.invariant-loop-name
invariant-loop-name l = l.all.items ≡ l.initial.all.items ++ l.yielded
