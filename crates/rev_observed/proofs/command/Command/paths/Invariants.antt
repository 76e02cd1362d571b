use Rattle.std.proofs.Common.{◌≡◌, drop}
use Rattle.rev_observed.specs.CommandValues.{paths_of}
use Rattle.rev_observed.proofs.command.Command.paths.Given as goal

abbrev pub invariant-loop-uses : goal.invariant-loop-uses
invariant-loop-uses l = paths_of l.kind l.uses-items ≡ paths_of l.kind (drop l.uses-index l.uses-items)
