use Rattle.std.proofs.Common.{◌≡◌, ℕ, true, take, Contains, ◌⊎◌}
use Rattle.std.specs.Prelude.{◌↔◌}
use Rattle.rev_conflicts.specs.Ranges.{has_path}
use Rattle.rev_conflicts.proofs.doing.add_ranges.Given as goal

abbrev pub invariant-loop-range : goal.invariant-loop-range
invariant-loop-range l = (n : ℕ) → Contains l.numbers.items n ↔ (Contains l.initial.numbers.items n ⊎ (has_path (take l.range-index l.ranges) n ≡ true))
