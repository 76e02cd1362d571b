use Rattle.std.proofs.Common.{◌≡◌, ℕ, true, Contains, ◌⊎◌, take}
use Rattle.rev_ranks.specs.Graph.{graph_of, successors_of}
use Rattle.rev_conflicts.specs.Ranges.{has_path}
use Rattle.rev_conflicts.specs.Tables.{AreQuiet}
use Rattle.rev_conflicts.proofs.quiet.add_all_suspects.Given as goal

abbrev pub invariant-loop-range : goal.invariant-loop-range
invariant-loop-range l = record {
  kept : (n : ℕ) → Contains l.initial.suspects.items n → Contains l.suspects.items n;
  rest : (n : ℕ) → has_path (take l.range-index l.ranges) n ≡ true → Contains l.suspects.items n ⊎ AreQuiet l.graph.manifest.builds l.edges l.user (successors_of (graph_of l.table.lists.items) n);
}
