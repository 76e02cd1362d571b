use Rattle.std.proofs.Common.{◌≡◌, ◌<◌, ℕ, List, true, length, get_or, Contains}
use Rattle.rev_ranks.specs.Graph.{graph_of}
use Rattle.rev_observed.specs.CommandValues.{CommandValue}
use Rattle.rev_conflicts.specs.declared.place.Place.{Place}
use Rattle.rev_races.specs.Searches.{AreDirect, IsKept}
use Rattle.rev_conflicts.specs.Tables.{IsKeyAt, IsKeyOf, SomeBelow, uses_at}
use Rattle.rev_conflicts.proofs.answer.found_in.Given as goal

abbrev pub invariant-loop-number : goal.invariant-loop-number
invariant-loop-number l = record {
  direct : AreDirect (graph_of l.steps) l.direct.items;
  kept : IsKept l.graph.manifest.builds l.search.edge l.search.waited.items;
  sound : (k : List ℕ) → Contains l.found k → SomeBelow (λ i. IsKeyOf l.graph.manifest.builds l.early l.edges (graph_of l.files.lists.items) (graph_of l.folders.lists.items) i k) (length l.commands);
  whole : (j : ℕ) → j < l.number-index → (place : Place) (k : List ℕ) (used : CommandValue) → get_or l.commands (get_or l.number-items j 0) used ≡ used → uses_at used place ≡ true
      → IsKeyAt l.graph.manifest.builds l.early l.edges (graph_of l.files.lists.items) (graph_of l.folders.lists.items) (get_or l.number-items j 0) place k → Contains l.found k;
}
