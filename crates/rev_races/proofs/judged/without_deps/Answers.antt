use Rattle.std.proofs.Common.{sym, ap, ◌∙◌}
use Rattle.rev_races.specs.Judged.{keeps_none}
use Rattle.rev_races.proofs.JudgedLemmas.{edge-fails, edge-passes}
use Rattle.rev_races.proofs.judged.without_deps.Goals as goal
use Rattle.rev_races.proofs.judged.without_deps.Goals.{then-keeps_nothing+in_ok-push, else-keeps_nothing}

pub loop-edge-preserved : goal.loop-edge-preserved
loop-edge-preserved c =
    let passes = keeps_none c.args.graph.now.manifest.builds in
    elim c.if-keeps_nothing.branch [
      | then-keeps_nothing+in_ok-push w ↦
          edge-passes passes c.loop-edge.edge c.loop-edge.edges.items c.if-keeps_nothing.edges.items c.loop-edge.invariant
          (ap (λ v. v.items) w.edges-is ∙ w.in_ok-push.ensures.items) (sym c.keeps_nothing.ensures ∙ w.if-keeps_nothing.true)
      | else-keeps_nothing w ↦
          ap (λ v. v.items) w.edges-is ∙ edge-fails passes c.loop-edge.edge c.loop-edge.edges.items c.loop-edge.invariant (sym c.keeps_nothing.ensures ∙ w.if-keeps_nothing.false)
    ]
