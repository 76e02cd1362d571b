use Rattle.std.proofs.Common.{sym, ap, ◌∙◌}
use Rattle.rev_history.specs.Timeline.{kept_events}
use Rattle.rev_races.specs.Judged.{is_unlisted}
use Rattle.rev_races.proofs.JudgedLemmas.{edge-fails, edge-passes}
use Rattle.rev_races.proofs.judged.unlisted.Goals as goal
use Rattle.rev_races.proofs.judged.unlisted.Goals.{then-is_unlisted+in_ok-push, else-is_unlisted}

pub loop-edge-preserved : goal.loop-edge-preserved
loop-edge-preserved c =
    let t = c.args.history.now.timeline in
    let passes = is_unlisted t.manifest t.opening (kept_events t) in
    elim c.if-is_unlisted.branch [
      | then-is_unlisted+in_ok-push w ↦
          edge-passes passes c.loop-edge.edge c.loop-edge.edges.items c.if-is_unlisted.edges.items c.loop-edge.invariant
          (ap (λ v. v.items) w.edges-is ∙ w.in_ok-push.ensures.items) (sym c.is_unlisted.ensures ∙ w.if-is_unlisted.true)
      | else-is_unlisted w ↦
          ap (λ v. v.items) w.edges-is ∙ edge-fails passes c.loop-edge.edge c.loop-edge.edges.items c.loop-edge.invariant (sym c.is_unlisted.ensures ∙ w.if-is_unlisted.false)
    ]
