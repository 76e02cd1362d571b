use Rattle.rev_prompt.specs.Spans.{is_kept_of, span_of}
use Rattle.rev_prompt.proofs.LastLemmas.{last-told-at}
use Rattle.rev_prompt.proofs.spans.last_of.Goals as goal

pub loop-run-preserved : goal.loop-run-preserved
loop-run-preserved c =
    last-told-at (is_kept_of c.args.edge) span_of c.args.runs.now c.loop-run.run-index _ c.loop-run.last c.later-last.result
    c.loop-run-test.true c.loop-run.invariant c.later-last.ensures
