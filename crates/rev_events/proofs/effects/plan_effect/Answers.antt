use Rattle.std.proofs.Common.{◌≡◌, length, ◌∙◌, arith}
use Rattle.rev_events.proofs.EffectLemmas.{marks-few, plan-adds}
use Rattle.rev_events.proofs.effects.plan_effect.Goals as goal

pub marks_written-requires : goal.marks_written-requires
marks_written-requires c =
    let many : length c.deref.result.now ≡ length c.args.graph.now.manifest.builds =
    marks-few c.args.graph.now.manifest c.args.cells.now.state c.args.targets.now _ (c.deref.ensures.value ∙ c.in_ok-marks.ensures) in
    omega (arith, many, c.edges-edges.ensures.graph.few)

pub returns : goal.returns
returns c =
    plan-adds c.args.graph.now.manifest c.args.cells.now.state c.args.targets.now _ c.deref.result.now (c.deref.ensures.value ∙ c.in_ok-marks.ensures) c.in_ok-writes.ensures
