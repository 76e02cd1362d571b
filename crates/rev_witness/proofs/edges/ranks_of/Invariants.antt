use Rattle.std.proofs.Common.{◌≡◌, map}
use Rattle.std.specs.List.{range_with_len}
use Rattle.rev_ranks.specs.Graph.{graph_of}
use Rattle.rev_witness.specs.Progress.{rank_list}
use Rattle.rev_witness.proofs.edges.ranks_of.Given as goal

abbrev pub invariant-loop-edge : goal.invariant-loop-edge
invariant-loop-edge l = graph_of l.ranks.items ≡ map (rank_list l.graph l.waited) (range_with_len 0 l.edge)
