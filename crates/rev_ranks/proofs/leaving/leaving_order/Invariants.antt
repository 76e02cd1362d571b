use Rattle.std.proofs.Common.{◌≡◌, ◌<◌, [], ℕ}
use Rattle.rev_ranks.specs.Graph.{graph_of}
use Rattle.rev_ranks.specs.Sets.{IsMarked}
use Rattle.rev_ranks.specs.Walks.{IsWalk}
use Rattle.rev_ranks.proofs.leaving.leaving_order.Given as goal

abbrev pub invariant-loop-root : goal.invariant-loop-root
invariant-loop-root l = record {
  walk : IsWalk (graph_of l.successors) l.met.items l.taken.items l.path.items l.left.items;
  path : l.path.items ≡ [];
  roots : (n : ℕ) → n < l.root → IsMarked l.met.items n;
}
