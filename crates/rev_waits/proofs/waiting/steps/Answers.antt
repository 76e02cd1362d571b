use Rattle.std.proofs.Common.{◌<◌, length, ap, ◌∙◌, arith}
use Rattle.std.specs.List.{filter_map}
use Rattle.rev_manifest.specs.Manifest.{BuildValue}
use Rattle.rev_graph.specs.Graph.{build_at, inputs_of, producer_of}
use Rattle.rev_waits.proofs.WaitLemmas.{among-are, graph-more}
use Rattle.rev_waits.proofs.waiting.steps.Goals as goal

pub loop-edge-preserved : goal.loop-edge-preserved
loop-edge-preserved c =
    let builds = c.args.graph.now.manifest.builds in
    let i = c.loop-edge.edge in
    let within : c.loop-edge.edge < length c.args.graph.now.manifest.builds = omega (arith, c.loop-edge-test.true, c.edges-edge-end.ensures.edges) in
    graph-more (λ (build : BuildValue). filter_map (producer_of builds) (inputs_of build)) c.loop-edge.steps.items c.in_ok-edges_among.field-0 c.push.new.self.items builds i within c.in_ok-push.ensures.items
    c.loop-edge.invariant (c.in_ok-edges_among.ensures ∙ ap (filter_map (λ producer. producer)) c.producers.ensures ∙ among-are builds (build_at builds i))
