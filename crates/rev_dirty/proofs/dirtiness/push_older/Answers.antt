use Rattle.std.proofs.Common.{ap, ◌∙◌}
use Rattle.std.specs.Prelude.{nat_lt}
use Rattle.std.specs.Global.{Vec}
use Rattle.std.proofs.lemmas.Bool.{lt-ltb, le-ltb}
use Rattle.rev_dirty.specs.declared.output.Output.{Output}
use Rattle.rev_dirty.specs.declared.reason.Reason.{Reason}
use Rattle.rev_dirty.specs.declared.reason.Reason.TheVariants as reason
use Rattle.rev_dirty.proofs.ChosenLemmas.{chosen-yes, chosen-no}
use Rattle.rev_dirty.proofs.dirtiness.push_older.Goals as goal
use Rattle.rev_dirty.proofs.dirtiness.push_older.Goals.{then-output-stamp+in_ok-push, else-output-stamp}

pub loop-position-preserved : goal.loop-position-preserved
loop-position-preserved c =
    let i = c.loop-position.position in
    let xs = c.args.outputs.now in
    elim c.if-output-stamp.branch [
      | then-output-stamp+in_ok-push w ↦
          ap (λ (v : Vec Reason). v.items) w.reasons-is
          ∙ chosen-yes (λ output. reason.Older output c.args.newest) (λ (output : Output). nat_lt output.effective c.args.stamp) xs i _ c.args.reasons.now.items c.loop-position.reasons.items w.push.new.self.items c.loop-position-test.true
          (lt-ltb _ _ w.if-output-stamp.true) c.loop-position.invariant w.in_ok-push.ensures.items
      | else-output-stamp w ↦
          ap (λ (v : Vec Reason). v.items) w.reasons-is
          ∙ chosen-no (λ output. reason.Older output c.args.newest) (λ (output : Output). nat_lt output.effective c.args.stamp) xs i _ c.args.reasons.now.items c.loop-position.reasons.items c.loop-position-test.true (le-ltb _ _ w.if-output-stamp.false) c.loop-position.invariant
    ]
