use Rattle.std.proofs.Common.{◌++◌, sym, ap, ◌∙◌}
use Rattle.std.specs.List.{filter_map, range_with_len}
use Rattle.std.specs.Option.{option_to_list}
use Rattle.rev_queries.specs.Rebuilds.{rebuild_at, rebuild_by}
use Rattle.rev_queries.proofs.ListLemmas.{mapped-next}
use Rattle.rev_queries.proofs.rebuild.rebuilds_among.Goals as goal

pub loop-edge-preserved : goal.loop-edge-preserved
loop-edge-preserved c = record {
  rebuilds =
      c.in_ok-add.ensures
      ∙ (λ j. c.loop-edge.invariant.rebuilds j ++ option_to_list (c.in_ok-rebuild.ensures.rebuild j))
      ∙ (λ j. filter_map (rebuild_at c.args.graph.now.manifest.builds c.args.cells.now.state c.args.marks.now) (range_with_len 0 c.loop-edge.edge)
      ++ option_to_list (rebuild_by c.args.graph.now.manifest.builds c.args.cells.now.state c.loop-edge.edge (c.is_wanted_in.ensures j)))
      ∙ sym (mapped-next (rebuild_at c.args.graph.now.manifest.builds c.args.cells.now.state c.args.marks.now) c.loop-edge.edge);
  graph = ap (λ s. s.graph) c.in_ok-rebuild.ensures.same ∙ c.loop-edge.invariant.graph;
  state = ap (λ s. s.state) c.in_ok-rebuild.ensures.same ∙ c.loop-edge.invariant.state;
}
