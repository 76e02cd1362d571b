use Rattle.std.proofs.Common.{◌≡◌, ℕ, ◌<◌, true, take, Contains, ◌⊎◌}
use Rattle.std.specs.Prelude.{◌↔◌}
use Rattle.rev_entry_conflicts.specs.Touches.{touched_by}
use Rattle.rev_entry_conflicts.proofs.touch.add_deeds.Given as goal

abbrev pub invariant-loop-deed : goal.invariant-loop-deed
invariant-loop-deed l = (n : ℕ) → Contains l.numbers.items n ↔ (Contains l.initial.numbers.items n ⊎ ((n < l.count) × (touched_by (take l.deed-index l.deeds) n ≡ true)))
