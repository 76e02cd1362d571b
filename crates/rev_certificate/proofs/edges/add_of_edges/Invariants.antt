use Rattle.std.proofs.Common.{◌≡◌, ◌++◌}
use Rattle.std.specs.List.{filter_map, range_with_len}
use Rattle.rev_certificate.specs.Obstacles.{of_edge}
use Rattle.rev_certificate.proofs.edges.add_of_edges.Given as goal

abbrev pub invariant-loop-edge : goal.invariant-loop-edge
invariant-loop-edge l =
    l.obstacles.items ≡ l.initial.obstacles.items ++ filter_map (of_edge l.graph.manifest.builds l.edges l.early l.marks.needed.now l.marks.began.now l.marks.ended.now) (range_with_len 0 l.edge)
