use Rattle.std.proofs.Common.{ℕ, Contains, ◌⊎◌}
use Rattle.std.specs.Prelude.{◌↔◌}
use Rattle.rev_conflicts.proofs.NumberLemmas.{IsPast}
use Rattle.rev_conflicts.proofs.doing.add_range.Given as goal

abbrev pub invariant-loop-number : goal.invariant-loop-number
invariant-loop-number l = (n : ℕ) → Contains l.numbers.items n ↔ (Contains l.initial.numbers.items n ⊎ IsPast l.range l.number n)
