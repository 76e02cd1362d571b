use Rattle.std.proofs.Common.{◌<◌, length, arith}
use Rattle.std.proofs.lemmas.List.{get_or_default}
use Rattle.rev_ranks.specs.Graph.{graph_of}
use Rattle.rev_undeclared.specs.Tables.{IsLookWhere}
use Rattle.rev_undeclared.proofs.LookLemmas.{ranges-all, ranges-more, ranges-start}
use Rattle.rev_undeclared.proofs.looks.add_ranges.Goals as goal

pub loop-range-init : goal.loop-range-init
loop-range-init c =
    ranges-start c.args.graph.now.manifest.builds c.args.paths.now c.args.edges.now c.args.stronger.now (graph_of c.args.left.now.lists.items) c.args.user c.args.used_by c.args.used.now c.args.found.now c.args.ranges.now
    (IsLookWhere c.args.graph.now.manifest.builds c.args.paths.now c.args.edges.now c.args.stronger.now (graph_of c.args.left.now.lists.items) c.args.user c.args.used_by c.args.used.now (λ path. path < length c.args.paths.now))

pub loop-range-preserved : goal.loop-range-preserved
loop-range-preserved c =
    ranges-more c.args.graph.now.manifest.builds c.args.paths.now c.args.edges.now c.args.stronger.now (graph_of c.args.left.now.lists.items) c.args.user c.args.used_by c.args.used.now c.args.found.now c.loop-range.found c.add_range.new.found
    c.args.ranges.now c.loop-range.range-index _
    (IsLookWhere c.args.graph.now.manifest.builds c.args.paths.now c.args.edges.now c.args.stronger.now (graph_of c.args.left.now.lists.items) c.args.user c.args.used_by c.args.used.now (λ path. path < length c.args.paths.now))
    c.loop-range-test.true (get_or_default c.args.ranges.now c.loop-range.range-index _ _ c.loop-range-test.true) c.loop-range.invariant c.in_ok-add_range.ensures

pub returns : goal.returns
returns c =
    ranges-all c.args.graph.now.manifest.builds c.args.paths.now c.args.edges.now c.args.stronger.now (graph_of c.args.left.now.lists.items) c.args.user c.args.used_by c.args.used.now c.args.found.now c.loop-range.found c.args.ranges.now
    c.loop-range.range-index
    (IsLookWhere c.args.graph.now.manifest.builds c.args.paths.now c.args.edges.now c.args.stronger.now (graph_of c.args.left.now.lists.items) c.args.user c.args.used_by c.args.used.now (λ path. path < length c.args.paths.now))
    (omega (arith, c.loop-range-test.false, c.loop-range.auto.range-index-end)) c.loop-range.invariant
