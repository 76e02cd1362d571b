use Rattle.std.proofs.Common.{◌≡◌, drop}
use Rattle.rev_observed.specs.PathSets.{are_rising, are_rising_from}
use Rattle.rev_observed.proofs.path_set.rise.Given as goal

abbrev pub invariant-loop-range : goal.invariant-loop-range
invariant-loop-range l = are_rising l.ranges ≡ are_rising_from l.least (drop l.range-index l.ranges)
