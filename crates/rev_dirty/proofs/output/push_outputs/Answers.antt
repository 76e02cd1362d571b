use Rattle.std.proofs.Common.{◌≡◌, ◌++◌, length, map, ap, ◌∙◌, arith}
use Rattle.rev_graph.specs.Graph.{build_at}
use Rattle.rev_dirty.specs.Facts.{output_facts}
use Rattle.rev_dirty.proofs.PushLemmas.{pushed-more, pushed-none, taken-all}
use Rattle.rev_dirty.proofs.output.push_outputs.Goals as goal

pub loop-path-init : goal.loop-path-init
loop-path-init c = pushed-none c.args.outputs.now.items

pub loop-path-preserved : goal.loop-path-preserved
loop-path-preserved c =
    pushed-more (output_facts c.args.cells.now.state (build_at c.args.graph.now.manifest.builds c.args.edge)) c.args.paths.now c.loop-path.path-index c.path-item.result c.args.outputs.now.items c.loop-path.outputs.items c.push.new.self.items
    c.output_of.result c.loop-path-test.true c.path-item.is c.loop-path.invariant c.output_of.ensures c.in_ok-push.ensures.items

pub returns : goal.returns
returns c =
    let all : c.loop-path.path-index ≡ length c.args.paths.now = omega (arith, c.loop-path-test.false, c.loop-path.auto.path-index-end) in
    let facts = output_facts c.args.cells.now.state (build_at c.args.graph.now.manifest.builds c.args.edge) in
    c.loop-path.invariant ∙ ap (λ paths. c.args.outputs.now.items ++ map facts paths) (taken-all c.args.paths.now c.loop-path.path-index all)
