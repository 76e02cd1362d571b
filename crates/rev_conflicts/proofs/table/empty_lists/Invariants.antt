use Rattle.std.proofs.Common.{◌≡◌, ℕ, length}
use Rattle.rev_ranks.specs.Graph.{Steps, graph_of}
use Rattle.rev_conflicts.proofs.table.empty_lists.Given as goal

abbrev pub invariant-loop-number : goal.invariant-loop-number
invariant-loop-number l = record {
  each : length l.lists.items ≡ l.number;
  none : (p c : ℕ) → Steps (graph_of l.lists.items) p c → ⊥;
}
