use Rattle.std.proofs.Common.{ℕ, List, get_or, Contains, ◌⊎◌}
use Rattle.std.specs.Prelude.{◌↔◌}
use Rattle.rev_races.specs.Keys.{SomeBelow, IsKeyBy}
use Rattle.rev_races.proofs.answer.add_at.Given as goal

abbrev pub invariant-loop-maker : goal.invariant-loop-maker
invariant-loop-maker l =
    (k : List ℕ) → Contains l.found k
    ↔ (Contains l.initial.found k ⊎ SomeBelow (λ i. IsKeyBy l.graph.manifest.builds l.files l.paths l.user l.place (get_or l.maker-items i 0) k) l.maker-index)
