use Rattle.std.proofs.Common.{◌≡◌, ℕ, length}
use Rattle.rev_ranks.specs.Graph.{graph_of, Steps}
use Rattle.rev_ranks.specs.Sets.{AreReversed}
use Rattle.rev_ranks.proofs.searches.reversed.Given as goal

abbrev pub invariant-loop : goal.invariant-loop
invariant-loop l = record {
  length_is : length l.reversed.items ≡ l.counter;
  empty : (s n : ℕ) → Steps (graph_of l.reversed.items) s n → ⊥;
}

abbrev pub invariant-loop-node : goal.invariant-loop-node
invariant-loop-node l = AreReversed (graph_of l.successors) l.node (graph_of l.reversed.items)
