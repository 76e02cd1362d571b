use Rattle.std.proofs.Common.{◌<◌, ℕ}
use Rattle.std.specs.List.{Contains}
use Rattle.rev_ranks.specs.Sets.{IsMarked}
use Rattle.rev_ranks.proofs.searches.marked_nodes.Given as goal

abbrev pub invariant-loop-node : goal.invariant-loop-node
invariant-loop-node l = record {
  only : (n : ℕ) → Contains l.nodes.items n → IsMarked l.marks n;
  all : (n : ℕ) → n < l.node → IsMarked l.marks n → Contains l.nodes.items n;
}
