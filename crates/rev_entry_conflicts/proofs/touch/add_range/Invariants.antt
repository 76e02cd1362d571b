use Rattle.std.proofs.Common.{ℕ, Contains, ◌⊎◌}
use Rattle.std.specs.Prelude.{◌↔◌}
use Rattle.rev_entry_conflicts.proofs.TouchLemmas.{IsBetween}
use Rattle.rev_entry_conflicts.proofs.touch.add_range.Given as goal

abbrev pub invariant-loop-number : goal.invariant-loop-number
invariant-loop-number l = (n : ℕ) → Contains l.numbers.items n ↔ (Contains l.initial.numbers.items n ⊎ IsBetween l.deed.first l.number n)
