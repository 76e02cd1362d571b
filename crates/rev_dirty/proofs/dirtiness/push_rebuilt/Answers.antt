use Rattle.std.proofs.Common.{ap, ◌∙◌}
use Rattle.std.specs.Global.{Vec}
use Rattle.rev_dirty.specs.declared.reason.Reason.{Reason}
use Rattle.rev_dirty.specs.declared.reason.Reason.TheVariants as reason
use Rattle.rev_dirty.proofs.ChosenLemmas.{chosen-yes, chosen-no}
use Rattle.rev_dirty.proofs.dirtiness.push_rebuilt.Goals as goal
use Rattle.rev_dirty.proofs.dirtiness.push_rebuilt.Goals.{then-changed+in_ok-push, else-changed}

pub loop-position-preserved : goal.loop-position-preserved
loop-position-preserved c =
    let i = c.loop-position.position in
    let xs = c.args.changes.now in
    elim c.if-changed.branch [
      | then-changed+in_ok-push w ↦
          ap (λ (v : Vec Reason). v.items) w.reasons-is
          ∙ chosen-yes reason.Rebuilt (λ changed. changed) xs i _ c.args.reasons.now.items c.loop-position.reasons.items w.push.new.self.items c.loop-position-test.true
          (w.if-changed.true) c.loop-position.invariant w.in_ok-push.ensures.items
      | else-changed w ↦
          ap (λ (v : Vec Reason). v.items) w.reasons-is
          ∙ chosen-no reason.Rebuilt (λ changed. changed) xs i _ c.args.reasons.now.items c.loop-position.reasons.items c.loop-position-test.true (w.if-changed.false) c.loop-position.invariant
    ]
