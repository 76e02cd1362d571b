use Rattle.std.proofs.Common.{◌≡◌, ◌++◌, drop}
use Rattle.rev_certainty.specs.Races.{left}
use Rattle.rev_certainty.proofs.races.unhidden.Given as goal

abbrev pub invariant-loop-race : goal.invariant-loop-race
invariant-loop-race l = l.told.items ++ left l.filters (drop l.race-index l.races) ≡ left l.filters l.races
