use Rattle.std.proofs.Common.{ℕ, ◌<◌, ◌≤◌, ◌+◌, ◌-◌, length}
use Rattle.rev_ranks.specs.Graph.{graph_of}
use Rattle.rev_undeclared.specs.Tables.{Adds, IsLookWhere}
use Rattle.rev_undeclared.proofs.looks.add_range.Given as goal

abbrev pub invariant-loop-path : goal.invariant-loop-path
invariant-loop-path l = record {
  adds :
      Adds l.initial.found l.found (IsLookWhere l.graph.manifest.builds l.paths l.edges l.stronger (graph_of l.left.lists.items) l.user l.used_by l.used (λ path. path < length l.paths))
      (IsLookWhere l.graph.manifest.builds l.paths l.edges l.stronger (graph_of l.left.lists.items) l.user l.used_by l.used (λ path. (l.range.first ≤ path) × (path ≤ l.range.last) × (path < l.path)));
  within : l.path ≤ length l.left.lists.items;
}

abbrev pub decreases-loop-path : goal.decreases-loop-path
decreases-loop-path l = length l.left.lists.items + 1 - l.path
