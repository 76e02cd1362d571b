use Rattle.std.proofs.Common.{◌≡◌}
use Rattle.std.specs.Prelude.{filter}
use Rattle.std.specs.List.{range_with_len}
use Rattle.rev_certified.specs.Standing.{unsure_in}
use Rattle.rev_certified.proofs.standing.unsure_edges.Given as goal

abbrev pub invariant-loop-edge : goal.invariant-loop-edge
invariant-loop-edge l =
    l.edges.items ≡ filter (unsure_in l.graph.manifest.builds l.files l.marks.began.now l.marks.ended.now l.whole) (range_with_len 0 l.edge)
