use Rattle.std.proofs.Common.{◌≡◌, ◌++◌, take}
use Rattle.rev_unlisted.specs.Follows.{path_nodes}
use Rattle.rev_unlisted.proofs.follows.push_paths.Given as goal

abbrev pub invariant-loop-name : goal.invariant-loop-name
invariant-loop-name l = l.steps.items ≡ l.initial.steps.items ++ path_nodes l.edges l.paths (take l.name-index l.names)
