use Rattle.std.proofs.Common.{ℕ, List, get_or, Contains, ◌⊎◌}
use Rattle.std.specs.Prelude.{◌↔◌}
use Rattle.rev_races.specs.Keys.{SomeBelow, IsKeyAt}
use Rattle.rev_races.specs.Searches.{AreKeptMakers}
use Rattle.rev_races.proofs.answer.add_among.Given as goal

abbrev pub invariant-loop-place : goal.invariant-loop-place
invariant-loop-place l = record {
  found : (k : List ℕ) → Contains l.found k
      ↔ (Contains l.initial.found k ⊎ SomeBelow (λ i. IsKeyAt l.graph.manifest.builds l.files l.paths l.user (get_or l.places i 0) k) l.place-index);
  behind : AreKeptMakers l.graph.manifest.builds l.behind.phony l.behind.makers.items;
}
