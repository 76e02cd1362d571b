use Rattle.std.proofs.Common.{◌≡◌, map}
use Rattle.std.specs.List.{range_with_len}
use Rattle.rev_ranks.specs.Graph.{graph_of, successors_of}
use Rattle.rev_needless.specs.Without.{left_of, marks_in, marks_of}
use Rattle.rev_needless.proofs.left.without.Given as goal

abbrev pub invariant-loop-node : goal.invariant-loop-node
invariant-loop-node l = graph_of l.left.items ≡ map (λ n. left_of (successors_of (graph_of l.steps) n) (marks_of (marks_in l.gone) n)) (range_with_len 0 l.node)
