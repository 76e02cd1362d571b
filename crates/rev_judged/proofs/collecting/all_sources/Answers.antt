use Rattle.std.proofs.Common.{◌≡◌, ◌<◌, ◌∙◌, false, [], get_or, length, subst, arith, if◌then◌else◌}
use Rattle.std.specs.List.{filter_map}
use Rattle.rev_graph.specs.Graph.{build_at, input_producers}
use Rattle.rev_judged.specs.Judged.{has_list, sources_of}
use Rattle.rev_judged.proofs.MarkLemmas.{graph-more, mark-at, marks-length}
use Rattle.rev_manifest.specs.Manifest.{ManifestValue}
use Rattle.rev_judged.proofs.collecting.all_sources.Goals as goal

pub bounds-listed-edge : goal.bounds-listed-edge
bounds-listed-edge c =
    let t = c.args.history.now.timeline in
    let below : c.loop-edge.edge < length c.args.history.now.timeline.manifest.builds =
    subst (λ (m : ManifestValue). c.loop-edge.edge < length m.builds) c.graph-graph.ensures (omega (arith, c.loop-edge-test.true, c.edges-edge-end.ensures.edges)) in
    omega (arith, below, marks-length (has_list t) (length t.manifest.builds) c.args.listed.now c.requires)

pub loop-edge-preserved : goal.loop-edge-preserved
loop-edge-preserved c =
    let t = c.args.history.now.timeline in
    let edge = c.loop-edge.edge in
    let below : c.loop-edge.edge < length c.args.history.now.timeline.manifest.builds =
    subst (λ (m : ManifestValue). c.loop-edge.edge < length m.builds) c.graph-graph.ensures (omega (arith, c.loop-edge-test.true, c.edges-edge-end.ensures.edges)) in
    let mark : get_or c.args.listed.now c.loop-edge.edge false ≡ has_list c.args.history.now.timeline c.loop-edge.edge =
    mark-at (has_list t) (length t.manifest.builds) edge c.args.listed.now false c.requires below in
    graph-more (sources_of t) edge c.loop-edge.steps.items c.push.new.self.items c.in_ok-sources.field-0 c.loop-edge.invariant
    c.in_ok-push.ensures.items
    (c.in_ok-sources.ensures
    ∙ (λ i. if mark i then [] else filter_map (λ producer. producer) (input_producers (c.graph-graph.ensures i).builds (build_at (c.graph-graph.ensures i).builds edge))))
