use Rattle.std.proofs.Common.{◌≡◌}
use Rattle.std.specs.List.{filter_map, range_with_len}
use Rattle.rev_queries.specs.Rebuilds.{rebuild_at}
use Rattle.rev_queries.proofs.rebuild.rebuilds_among.Given as goal

-- those of the edges so far
abbrev pub invariant-loop-edge : goal.invariant-loop-edge
invariant-loop-edge l = record {
  rebuilds : l.rebuilds.items
      ≡ filter_map (rebuild_at l.graph.manifest.builds l.cells.state l.marks) (range_with_len 0 l.edge);
  graph : l.scan.graph ≡ l.graph;
  state : l.scan.state ≡ l.cells.state;
}
