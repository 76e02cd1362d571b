use Rattle.std.proofs.Common.{ℕ}
use Rattle.rev_ranks.specs.Graph.{graph_of}
use Rattle.rev_ranks.specs.Sets.{IsMarked}
use Rattle.rev_ranks.specs.Walks.{work_left, IsWalk}
use Rattle.rev_ranks.proofs.leaving.walk_from.Given as goal

abbrev pub invariant-loop-node : goal.invariant-loop-node
invariant-loop-node l = record {
  walk : IsWalk (graph_of l.successors) l.met.items l.taken.items l.path.items l.left.items;
  root : IsMarked l.met.items l.root;
  keeps : (n : ℕ) → IsMarked l.fn.met.items n → IsMarked l.met.items n;
}

abbrev pub decreases-loop-node : goal.decreases-loop-node
decreases-loop-node l = work_left (graph_of l.successors) l.met.items l.taken.items l.path.items
