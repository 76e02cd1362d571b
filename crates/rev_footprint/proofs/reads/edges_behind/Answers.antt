use Rattle.std.proofs.Common.{◌++◌}
use Rattle.rev_graph.specs.Graph.{build_at}
use Rattle.rev_dirty.specs.Visible.{line_inputs}
use Rattle.rev_footprint.specs.Behind.{phony_producers}
use Rattle.rev_footprint.proofs.BehindLemmas.{grows-among-both, behind-grown, phony-grown}
use Rattle.rev_footprint.proofs.reads.edges_behind.Goals as goal

pub add_phony-requires : goal.add_phony-requires
add_phony-requires c = (line_inputs (build_at c.args.graph.now.manifest.builds c.args.edge), c.counted_producers.ensures)

pub add_phony-requires-2 : goal.add_phony-requires-2
add_phony-requires-2 c = (c.args.listed.now, c.requires.producers)

pub add_behind-requires : goal.add_behind-requires
add_behind-requires c =
    let builds = c.args.graph.now.manifest.builds in
    let on_line = line_inputs (build_at builds c.args.edge) in
    let old = c.new-edges.result.keys in
    let middle = c.add_phony.new.edges.keys in
    let new = c.add_phony-2.new.edges.keys in
    phony-grown builds old new (on_line ++ c.args.listed.now) c.new-edges.ensures.empty
    (grows-among-both builds old middle new c.counted_producers.result.now c.args.producers.now on_line c.args.listed.now c.counted_producers.ensures c.requires.producers
    c.in_ok-add_phony.ensures c.in_ok-add_phony-2.ensures)

pub returns-clause-behind : goal.returns-clause-behind
returns-clause-behind c =
    let builds = c.args.graph.now.manifest.builds in
    let on_line = line_inputs (build_at builds c.args.edge) in
    let old = c.new-edges.result.keys in
    let middle = c.add_phony.new.edges.keys in
    let new = c.add_phony-2.new.edges.keys in
    behind-grown builds old new (phony_producers builds (on_line ++ c.args.listed.now)) c.add_behind.new.edges.keys c.new-edges.ensures.empty
    (grows-among-both builds old middle new c.counted_producers.result.now c.args.producers.now on_line c.args.listed.now c.counted_producers.ensures c.requires.producers
    c.in_ok-add_phony.ensures c.in_ok-add_phony-2.ensures) c.in_ok-add_behind.ensures
