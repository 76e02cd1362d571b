use Rattle.std.proofs.Common.{◌≡◌, true}
use Rattle.std.specs.List.{list_all, range_with_len}
use Rattle.rev_ranks.specs.Graph.{graph_of, successors_of}
use Rattle.rev_needless.specs.Staying.{row_stays}
use Rattle.rev_needless.proofs.staying.rows_stay.Given as goal

abbrev pub invariant-loop-node : goal.invariant-loop-node
invariant-loop-node l = list_all (λ user. row_stays (graph_of l.before) (graph_of l.after) user (successors_of (graph_of l.rows) user)) (range_with_len 0 l.node) ≡ true
