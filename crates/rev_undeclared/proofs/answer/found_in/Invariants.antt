use Rattle.std.proofs.Common.{◌≡◌, ◌<◌, ℕ, List, get_or, length, Contains}
use Rattle.rev_ranks.specs.Graph.{graph_of}
use Rattle.rev_observed.specs.CommandValues.{CommandValue}
use Rattle.rev_conflicts.specs.Tables.{scene}
use Rattle.rev_undeclared.specs.Tables.{IsAnothersWhere, IsLookWhere}
use Rattle.rev_undeclared.proofs.AnswerLemmas.{IsFoundKey}
use Rattle.rev_undeclared.proofs.answer.found_in.Given as goal

abbrev pub invariant-loop-number : goal.invariant-loop-number
invariant-loop-number l = record {
  sound : (k : List ℕ) → Contains l.found k → IsFoundKey (scene l.graph.manifest.builds l.files l.paths l.commands l.edges l.hidden) l.builds l.stronger k;
  anothers : (k : List ℕ) → IsAnothersWhere l.graph.manifest.builds l.paths l.edges l.stronger (graph_of l.left.lists.items) (length l.paths) k → Contains l.found k;
  looks : (i : ℕ) (used : CommandValue) (k : List ℕ) → i < l.number → get_or l.commands i used ≡ used
      → IsLookWhere l.graph.manifest.builds l.paths l.edges l.stronger (graph_of l.left.lists.items) (get_or l.edges i 0) i used (λ path. path < length l.paths) k → Contains l.found k;
}
