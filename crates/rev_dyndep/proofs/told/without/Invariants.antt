use Rattle.std.proofs.Common.{◌≡◌, ◌++◌, drop}
use Rattle.rev_dyndep.specs.Told.{without}
use Rattle.rev_dyndep.proofs.told.without.Given as goal

abbrev pub invariant-loop-path : goal.invariant-loop-path
invariant-loop-path l = l.left.items ++ without l.set (drop l.path-index l.paths) ≡ without l.set l.paths
