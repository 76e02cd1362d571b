use Rattle.std.proofs.Common.{sym, ap, ◌∙◌}
use Rattle.rev_judged.specs.Judged.{is_unjudged_as}
use Rattle.rev_races.proofs.JudgedLemmas.{edge-fails, edge-passes}
use Rattle.rev_judged.proofs.judged.edges_with.Goals as goal
use Rattle.rev_judged.proofs.judged.edges_with.Goals.{then-counts_at+in_ok-push, else-counts_at}

pub loop-edge-preserved : goal.loop-edge-preserved
loop-edge-preserved c =
    let passes = is_unjudged_as c.args.history.now.timeline c.args.others in
    elim c.if-counts_at.branch [
      | then-counts_at+in_ok-push w ↦
          edge-passes passes c.loop-edge.edge c.loop-edge.edges.items c.if-counts_at.edges.items c.loop-edge.invariant
          (ap (λ v. v.items) w.edges-is ∙ w.in_ok-push.ensures.items) (sym c.counts_at.ensures ∙ w.if-counts_at.true)
      | else-counts_at w ↦
          ap (λ v. v.items) w.edges-is ∙ edge-fails passes c.loop-edge.edge c.loop-edge.edges.items c.loop-edge.invariant (sym c.counts_at.ensures ∙ w.if-counts_at.false)
    ]
