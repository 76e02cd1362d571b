use Rattle.std.proofs.Common.{◌≡◌, ◌++◌, take}
use Rattle.rev_unlisted.specs.Follows.{makers_of}
use Rattle.rev_unlisted.proofs.follows.push_makers.Given as goal

abbrev pub invariant-loop-name : goal.invariant-loop-name
invariant-loop-name l = l.steps.items ≡ l.initial.steps.items ++ makers_of l.graph.manifest.builds l.sure (take l.name-index l.names)
