use Rattle.std.proofs.Common.{sym, ap, ◌∙◌}
use Rattle.rev_certified.specs.Standing.{missing_in}
use Rattle.rev_races.proofs.JudgedLemmas.{edge-fails, edge-passes}
use Rattle.rev_certified.proofs.standing.missing_edges.Goals as goal
use Rattle.rev_certified.proofs.standing.missing_edges.Goals.{then-is_missing_at+in_ok-push, else-is_missing_at}

pub loop-edge-preserved : goal.loop-edge-preserved
loop-edge-preserved c =
    let passes = missing_in c.args.graph.now.manifest.builds c.args.files.now c.args.marks.needed.now c.args.marks.ended.now in
    elim c.if-is_missing_at.branch [
      | then-is_missing_at+in_ok-push w ↦
          edge-passes passes c.loop-edge.edge c.loop-edge.edges.items c.if-is_missing_at.edges.items c.loop-edge.invariant
          (ap (λ v. v.items) w.edges-is ∙ w.in_ok-push.ensures.items) (sym c.is_missing_at.ensures ∙ w.if-is_missing_at.true)
      | else-is_missing_at w ↦
          ap (λ v. v.items) w.edges-is ∙ edge-fails passes c.loop-edge.edge c.loop-edge.edges.items c.loop-edge.invariant (sym c.is_missing_at.ensures ∙ w.if-is_missing_at.false)
    ]
