use Rattle.std.proofs.Common.{◌≡◌}
use Rattle.std.specs.Prelude.{filter}
use Rattle.std.specs.List.{range_with_len}
use Rattle.rev_certified.specs.Standing.{missing_in}
use Rattle.rev_certified.proofs.standing.missing_edges.Given as goal

abbrev pub invariant-loop-edge : goal.invariant-loop-edge
invariant-loop-edge l =
    l.edges.items ≡ filter (missing_in l.graph.manifest.builds l.files l.marks.needed.now l.marks.ended.now) (range_with_len 0 l.edge)
