use Rattle.rev_compared.specs.Lasts.{is_begun_before}
use Rattle.rev_compared.proofs.Lists.{filtered-by}
use Rattle.rev_compared.proofs.lasts.begun_before.Goals as goal

pub loop-run-preserved : goal.loop-run-preserved
loop-run-preserved c =
    filtered-by (is_begun_before c.args.number) c.args.runs.now c.loop-run.run-index _ _ _ _ c.loop-run-test.true
    c.loop-run.invariant c.is_begun_before-passes.ensures c.in_ok-add_run.ensures
