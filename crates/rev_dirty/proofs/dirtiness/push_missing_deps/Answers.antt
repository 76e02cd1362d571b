use Rattle.std.proofs.Common.{ap, sym, ◌∙◌}
use Rattle.std.specs.Global.{Vec}
use Rattle.rev_dirty.specs.declared.reason.Reason.{Reason}
use Rattle.rev_dirty.specs.declared.reason.Reason.TheVariants as reason
use Rattle.rev_dirty.specs.Chosen.{lacks}
use Rattle.rev_dirty.proofs.ChosenLemmas.{chosen-yes, chosen-no}
use Rattle.rev_dirty.proofs.dirtiness.push_missing_deps.Goals as goal
use Rattle.rev_dirty.proofs.dirtiness.push_missing_deps.Goals.{then-lacks+in_ok-push, else-lacks}

pub loop-position-preserved : goal.loop-position-preserved
loop-position-preserved c =
    let i = c.loop-position.position in
    let xs = c.args.inputs.now in
    elim c.if-lacks.branch [
      | then-lacks+in_ok-push w ↦
          ap (λ (v : Vec Reason). v.items) w.reasons-is
          ∙ chosen-yes reason.MissingDep lacks xs i _ c.args.reasons.now.items c.loop-position.reasons.items w.push.new.self.items c.loop-position-test.true
          (sym c.lacks.ensures ∙ w.if-lacks.true) c.loop-position.invariant w.in_ok-push.ensures.items
      | else-lacks w ↦
          ap (λ (v : Vec Reason). v.items) w.reasons-is
          ∙ chosen-no reason.MissingDep lacks xs i _ c.args.reasons.now.items c.loop-position.reasons.items c.loop-position-test.true (sym c.lacks.ensures ∙ w.if-lacks.false) c.loop-position.invariant
    ]
