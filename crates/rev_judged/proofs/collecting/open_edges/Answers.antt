use Rattle.std.proofs.Common.{◌≡◌, ◌<◌, ◌∙◌, true, false, not, ◌&&◌, get_or, length, ap, sym, subst, arith}
use Rattle.rev_graph.specs.Graph.{build_at}
use Rattle.rev_judged.specs.Judged.{has_list, is_open, takes_others}
use Rattle.rev_races.proofs.JudgedLemmas.{mapped-more}
use Rattle.rev_judged.proofs.MarkLemmas.{mark-at, marks-length}
use Rattle.rev_manifest.specs.Manifest.{ManifestValue}
use Rattle.rev_judged.proofs.collecting.open_edges.Goals as goal
use Rattle.rev_judged.proofs.collecting.open_edges.Goals.{then-not-listed-edge, else-not-listed-edge}

pub bounds-listed-edge : goal.bounds-listed-edge
bounds-listed-edge c =
    let t = c.args.history.now.timeline in
    let below : c.loop-edge.edge < length c.args.history.now.timeline.manifest.builds =
    subst (λ (m : ManifestValue). c.loop-edge.edge < length m.builds) c.graph-graph.ensures (omega (arith, c.loop-edge-test.true, c.edges-edge-end.ensures.edges)) in
    omega (arith, below, marks-length (has_list t) (length t.manifest.builds) c.args.listed.now c.requires)

pub loop-edge-preserved : goal.loop-edge-preserved
loop-edge-preserved c =
    let t = c.args.history.now.timeline in
    let edge = c.loop-edge.edge in
    let below : c.loop-edge.edge < length c.args.history.now.timeline.manifest.builds =
    subst (λ (m : ManifestValue). c.loop-edge.edge < length m.builds) c.graph-graph.ensures (omega (arith, c.loop-edge-test.true, c.edges-edge-end.ensures.edges)) in
    let mark : get_or c.args.listed.now c.loop-edge.edge false ≡ has_list c.args.history.now.timeline c.loop-edge.edge =
    mark-at (has_list t) (length t.manifest.builds) edge c.args.listed.now false c.requires below in
    mapped-more (is_open t) edge c.loop-edge.marks.items c.push.new.self.items c.if-not-listed-edge.push c.loop-edge.invariant
    c.in_ok-push.ensures.items
    (elim c.if-not-listed-edge.branch [
      | then-not-listed-edge w ↦
          let none : has_list c.args.history.now.timeline c.loop-edge.edge ≡ false = sym mark ∙ w.if-not-listed-edge.true in
          w.push-is ∙ w.takes_others.ensures
          ∙ (λ i. takes_others (c.graph-graph.ensures i).builds (build_at (c.graph-graph.ensures i).builds edge))
          ∙ sym (λ i. not (none i) && takes_others t.manifest.builds (build_at t.manifest.builds edge))
      | else-not-listed-edge w ↦
          let some : has_list c.args.history.now.timeline c.loop-edge.edge ≡ true = sym mark ∙ w.if-not-listed-edge.false in
          w.push-is ∙ ap not w.if-not-listed-edge.false ∙ sym (λ i. not (some i) && takes_others t.manifest.builds (build_at t.manifest.builds edge))
    ])
