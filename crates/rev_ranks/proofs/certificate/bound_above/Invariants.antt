use Rattle.std.proofs.Common.{ℕ, ◌<◌, ◌≤◌, get_or, take}
use Rattle.std.specs.List.{All}
use Rattle.rev_ranks.proofs.certificate.bound_above.Given as goal

abbrev pub invariant-loop-node : goal.invariant-loop-node
invariant-loop-node l = record {
  above : All (λ s. get_or l.numbers s 0 < l.bound) (take l.node-index l.nodes);
  least : (bound : ℕ) → All (λ s. get_or l.numbers s 0 < bound) (take l.node-index l.nodes) → l.bound ≤ bound;
}
