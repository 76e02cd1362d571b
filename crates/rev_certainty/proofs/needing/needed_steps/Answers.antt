use Rattle.std.proofs.Common.{◌<◌, length, arith}
use Rattle.rev_waits.proofs.WaitLemmas.{graph-more}
use Rattle.rev_certainty.specs.Needed.{needs_of}
use Rattle.rev_certainty.proofs.needing.needed_steps.Goals as goal

pub loop-edge-preserved : goal.loop-edge-preserved
loop-edge-preserved c =
    let builds = c.args.graph.now.manifest.builds in
    let i = c.loop-edge.edge in
    let within : c.loop-edge.edge < length c.args.graph.now.manifest.builds = omega (arith, c.loop-edge-test.true, c.edges-edge-end.ensures.edges) in
    graph-more (needs_of builds) c.loop-edge.steps.items c.in_ok-needed_by.field-0 c.push.new.self.items builds i within c.in_ok-push.ensures.items c.loop-edge.invariant c.in_ok-needed_by.ensures
