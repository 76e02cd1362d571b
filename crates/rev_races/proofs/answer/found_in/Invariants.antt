use Rattle.std.proofs.Common.{ℕ, List, get_or, Contains, ◌⊎◌}
use Rattle.std.specs.Prelude.{◌↔◌}
use Rattle.rev_ranks.specs.Graph.{graph_of}
use Rattle.rev_races.specs.Keys.{IsKeyOf, SomeBelow}
use Rattle.rev_races.specs.Searches.{AreDirect, AreKeptMakers, IsKept}
use Rattle.rev_races.proofs.ExactLemmas.{no-keys}
use Rattle.rev_races.proofs.answer.found_in.Given as goal

abbrev pub invariant-loop-user : goal.invariant-loop-user
invariant-loop-user l = record {
  found : (k : List ℕ) → Contains l.found k ↔ (Contains no-keys k ⊎ SomeBelow (λ i. IsKeyOf l.history.timeline l.files (get_or l.user-items i 0) k) l.user-index);
  direct : AreDirect (graph_of l.steps) l.direct.items;
  kept : IsKept l.history.timeline.manifest.builds l.search.edge l.search.waited.items;
  behind : AreKeptMakers l.history.timeline.manifest.builds l.behind.phony l.behind.makers.items;
}
