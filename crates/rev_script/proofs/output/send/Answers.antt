use Rattle.rev_script.proofs.OutputLemmas.{appends-more, appends-kept, within_rest, stopped, writes-err}
use Rattle.rev_script.proofs.output.send.Goals as goal

pub loop-written-preserved : goal.loop-written-preserved
loop-written-preserved g c = (
  within_rest _ _ _ c.loop-written.invariant.0 c.in_ok-count.ensures.bound,
  appends-more _ _ _ _ _ _ c.loop-written.invariant.1 c.in_ok-count.ensures.bytes,
)

pub returns-in_err-count : goal.returns-in_err-count
returns-in_err-count g c =
    writes-err _ _ _ _ _ c.from_residual.ensures.1 (stopped _ _ _ _ (appends-kept _ _ _ _ c.loop-written.invariant.1 c.in_err-count.ensures.err))
