use Rattle.std.proofs.Common.{◌≡◌, length, ◌∙◌, arith}
use Rattle.rev_plan.specs.Plan.{plan_refusal}
use Rattle.rev_events.specs.declared.fault.Fault.TheVariants.{Refused}
use Rattle.rev_events.proofs.EffectLemmas.{marks-few, plan-adds}
use Rattle.rev_events.proofs.answers.plan_answer.Goals as goal

pub marks_written-requires : goal.marks_written-requires
marks_written-requires c =
    let many : length c.deref.result.now ≡ length c.args.graph.now.manifest.builds =
    marks-few c.args.graph.now.manifest c.args.cells.now.state c.args.targets.now _ (c.deref.ensures.value ∙ c.in-Ok.ensures.marks) in
    omega (arith, many, c.edges-edges.ensures.graph.few)

pub returns-in_ok-writes-in-Ok-clause-writes : goal.returns-in_ok-writes-in-Ok-clause-writes
returns-in_ok-writes-in-Ok-clause-writes c =
    plan-adds c.args.graph.now.manifest c.args.cells.now.state c.args.targets.now _ c.deref.result.now (c.deref.ensures.value ∙ c.in-Ok.ensures.marks) c.in_ok-writes-in-Ok.ensures

pub returns-in-Err-clause-refused : goal.returns-in-Err-clause-refused
returns-in-Err-clause-refused c = λ r is.
    let same : c.of_plan.result ≡ Refused r = cc in
    c.of_plan.ensures (plan_refusal c.args.graph.now.manifest c.args.cells.now.state c.args.targets.now) r c.in-Err.ensures.refused same
