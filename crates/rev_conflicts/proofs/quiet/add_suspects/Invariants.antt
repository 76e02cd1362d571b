use Rattle.std.proofs.Common.{ℕ, ◌<◌, ◌≤◌, ◌+◌, ◌-◌, Contains, ◌⊎◌, length}
use Rattle.rev_ranks.specs.Graph.{graph_of, successors_of}
use Rattle.rev_conflicts.specs.Tables.{AreQuiet}
use Rattle.rev_conflicts.proofs.quiet.add_suspects.Given as goal

abbrev pub invariant-loop-number : goal.invariant-loop-number
invariant-loop-number l = record {
  kept : (n : ℕ) → Contains l.initial.suspects.items n → Contains l.suspects.items n;
  rest : (n : ℕ) → l.range.first ≤ n → n < l.number → n ≤ l.range.last → Contains l.suspects.items n ⊎ AreQuiet l.graph.manifest.builds l.edges l.user (successors_of (graph_of l.table.lists.items) n);
  within : l.number ≤ length l.table.lists.items;
}

abbrev pub decreases-loop-number : goal.decreases-loop-number
decreases-loop-number l = length l.table.lists.items + 1 - l.number
