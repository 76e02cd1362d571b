use Rattle.std.proofs.Common.{sym, ap, ◌∙◌}
use Rattle.rev_certificate.specs.Obstacles.{of_edge}
use Rattle.rev_certificate.proofs.CertificateLemmas.{none-more, some-more}
use Rattle.rev_certificate.proofs.edges.add_of_edges.Goals.{in-Some+in_ok-push, in_default}
use Rattle.rev_certificate.proofs.edges.add_of_edges.Goals as goal

pub loop-edge-preserved : goal.loop-edge-preserved
loop-edge-preserved c =
    let f = of_edge c.args.graph.now.manifest.builds c.args.edges.now c.args.early.now c.args.marks.needed.now c.args.marks.began.now c.args.marks.ended.now in
    elim c.match-obstacle_of.branch [
      | in-Some+in_ok-push w ↦
          some-more f c.loop-edge.edge w.in-Some.obstacle c.args.obstacles.now.items c.loop-edge.obstacles.items c.match-obstacle_of.obstacles.items c.loop-edge.invariant (sym c.obstacle_of.ensures ∙ w.in-Some.is)
          (ap (λ v. v.items) w.obstacles-is ∙ w.in_ok-push.ensures.items)
      | in_default w ↦
          ap (λ v. v.items) w.obstacles-is ∙ none-more f c.loop-edge.edge c.args.obstacles.now.items c.loop-edge.obstacles.items c.loop-edge.invariant (sym c.obstacle_of.ensures ∙ w.in_default.is)
    ]
