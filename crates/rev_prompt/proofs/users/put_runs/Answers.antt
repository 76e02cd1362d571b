use Rattle.std.proofs.Common.{arith}
use Rattle.rev_prompt.specs.Spans.{is_kept_of, span_of}
use Rattle.rev_prompt.proofs.LastLemmas.{last-told-at}
use Rattle.rev_prompt.proofs.users.put_runs.Goals as goal

pub loop-run-preserved : goal.loop-run-preserved
loop-run-preserved c = λ edge within none.
    last-told-at (is_kept_of edge) span_of c.args.runs.now c.loop-run.run-index _ _ _ c.loop-run-test.true
    (c.loop-run.invariant edge within none) (c.put_run.ensures edge (omega (arith, within, c.loop-run.auto.spans)))
