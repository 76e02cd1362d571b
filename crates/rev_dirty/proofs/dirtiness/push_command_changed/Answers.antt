use Rattle.std.proofs.Common.{ap, ◌∙◌}
use Rattle.std.specs.Global.{Vec}
use Rattle.rev_dirty.specs.declared.output.Output.{Output}
use Rattle.rev_dirty.specs.declared.reason.Reason.{Reason}
use Rattle.rev_dirty.specs.declared.reason.Reason.TheVariants as reason
use Rattle.rev_dirty.proofs.ChosenLemmas.{chosen-yes, chosen-no}
use Rattle.rev_dirty.proofs.dirtiness.push_command_changed.Goals as goal
use Rattle.rev_dirty.proofs.dirtiness.push_command_changed.Goals.{then-output+in_ok-push, else-output}

pub loop-position-preserved : goal.loop-position-preserved
loop-position-preserved c =
    let i = c.loop-position.position in
    let xs = c.args.outputs.now in
    elim c.if-output.branch [
      | then-output+in_ok-push w ↦
          ap (λ (v : Vec Reason). v.items) w.reasons-is
          ∙ chosen-yes reason.Command (λ (output : Output). output.command_changed) xs i _ c.args.reasons.now.items c.loop-position.reasons.items w.push.new.self.items c.loop-position-test.true
          (w.if-output.true) c.loop-position.invariant w.in_ok-push.ensures.items
      | else-output w ↦
          ap (λ (v : Vec Reason). v.items) w.reasons-is
          ∙ chosen-no reason.Command (λ (output : Output). output.command_changed) xs i _ c.args.reasons.now.items c.loop-position.reasons.items c.loop-position-test.true (w.if-output.false) c.loop-position.invariant
    ]
