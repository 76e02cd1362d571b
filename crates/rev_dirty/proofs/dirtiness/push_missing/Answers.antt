use Rattle.std.proofs.Common.{ap, ◌∙◌}
use Rattle.std.specs.Prelude.{◌==◌}
use Rattle.std.specs.Global.{Vec}
use Rattle.std.proofs.lemmas.Bool.{eq-eqb, ne_eqb}
use Rattle.rev_dirty.specs.declared.output.Output.{Output}
use Rattle.rev_dirty.specs.declared.reason.Reason.{Reason}
use Rattle.rev_dirty.specs.declared.reason.Reason.TheVariants as reason
use Rattle.rev_dirty.proofs.ChosenLemmas.{chosen-yes, chosen-no}
use Rattle.rev_dirty.proofs.dirtiness.push_missing.Goals as goal
use Rattle.rev_dirty.proofs.dirtiness.push_missing.Goals.{then-output-eq0+in_ok-push, else-output-eq0}

pub loop-position-preserved : goal.loop-position-preserved
loop-position-preserved c =
    let i = c.loop-position.position in
    let xs = c.args.outputs.now in
    elim c.if-output-eq0.branch [
      | then-output-eq0+in_ok-push w ↦
          ap (λ (v : Vec Reason). v.items) w.reasons-is
          ∙ chosen-yes reason.Missing (λ (output : Output). output.stamp == 0) xs i _ c.args.reasons.now.items c.loop-position.reasons.items w.push.new.self.items c.loop-position-test.true
          (eq-eqb _ _ w.if-output-eq0.true) c.loop-position.invariant w.in_ok-push.ensures.items
      | else-output-eq0 w ↦
          ap (λ (v : Vec Reason). v.items) w.reasons-is
          ∙ chosen-no reason.Missing (λ (output : Output). output.stamp == 0) xs i _ c.args.reasons.now.items c.loop-position.reasons.items c.loop-position-test.true (ne_eqb _ _ w.if-output-eq0.false) c.loop-position.invariant
    ]
