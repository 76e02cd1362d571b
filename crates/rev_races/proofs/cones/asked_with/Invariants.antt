use Rattle.std.proofs.Common.{◌≡◌, ◌≤◌, Some, length}
use Rattle.std.specs.Prelude.{slice_get}
use Rattle.rev_races.proofs.cones.asked_with.Given as goal

abbrev pub invariant-loop-end : goal.invariant-loop-end
invariant-loop-end l = record {
  few : length l.asked.items ≤ 64;
  first : slice_get l.asked.items 0 ≡ Some l.number;
}
