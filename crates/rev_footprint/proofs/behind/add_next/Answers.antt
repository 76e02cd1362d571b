use Rattle.rev_graph.specs.Graph.{build_at}
use Rattle.rev_dirty.specs.Visible.{line_inputs}
use Rattle.rev_footprint.proofs.BehindLemmas.{grows-among}
use Rattle.rev_footprint.proofs.behind.add_next.Goals as goal

pub add_phony-requires : goal.add_phony-requires
add_phony-requires c = (line_inputs (build_at c.args.graph.now.manifest.builds c.args.edge), c.counted_producers.ensures)

pub returns : goal.returns
returns c =
    let builds = c.args.graph.now.manifest.builds in
    grows-among builds c.args.edges.now.keys c.add_phony.new.edges.keys c.counted_producers.result.now (line_inputs (build_at builds c.args.edge)) c.counted_producers.ensures c.in_ok-add_phony.ensures
