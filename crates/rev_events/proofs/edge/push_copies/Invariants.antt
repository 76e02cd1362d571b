use Rattle.std.proofs.Common.{◌≡◌, ◌++◌, take}
use Rattle.rev_events.proofs.edge.push_copies.Given as goal

abbrev pub invariant-loop-path : goal.invariant-loop-path
invariant-loop-path l = l.names.items ≡ l.initial.names.items ++ take l.path-index l.paths
