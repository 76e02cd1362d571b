use Rattle.std.proofs.Common.{sym, ap, ◌∙◌}
use Rattle.rev_suspects.specs.Suspects.{is_suspect, suspect_as}
use Rattle.rev_suspects.proofs.SuspectLemmas.{more-found, none-found}
use Rattle.rev_suspects.proofs.suspected.add_suspects.Goals as goal
use Rattle.rev_suspects.proofs.suspected.add_suspects.Goals.{then-is_suspect+in_ok-push, else-is_suspect}

pub loop-edge-preserved : goal.loop-edge-preserved
loop-edge-preserved c =
    let f = c.args.failure.now in
    let p = is_suspect c.args.graph.now.manifest c.args.files.now c.args.cells.now.state c.args.failure.now.edge c.args.progress in
    let g = suspect_as c.args.failure.now c.args.progress in
    elim c.if-is_suspect.branch [
      | then-is_suspect+in_ok-push w ↦
          more-found g p c.loop-edge.edge c.args.found.now.items c.loop-edge.found.items c.if-is_suspect.found.items c.loop-edge.invariant (ap (λ v. v.items) w.found-is ∙ w.in_ok-push.ensures.items)
          (sym c.is_suspect.ensures ∙ w.if-is_suspect.true)
      | else-is_suspect w ↦
          ap (λ v. v.items) w.found-is
          ∙ none-found g p c.loop-edge.edge c.args.found.now.items c.loop-edge.found.items c.loop-edge.invariant (sym c.is_suspect.ensures ∙ w.if-is_suspect.false)
    ]
