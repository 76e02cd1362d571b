use Rattle.std.proofs.Common.{◌<◌, ℕ, sym, subst, ◌∙◌}
use Rattle.rev_compared.proofs.LastLemmas.{next-last}
use Rattle.rev_compared.proofs.lasts.lasts_in.Goals as goal

pub loop-run-preserved : goal.loop-run-preserved
loop-run-preserved c = record {
  size = c.note.ensures.size ∙ c.loop-run.invariant.size;
  last = λ edge within.
      next-last c.args.history.now.timeline c.args.runs.now c.loop-run.run-index _ edge _ _ c.loop-run-test.true
      (c.note.ensures.noted edge (subst (λ (n : ℕ). edge < n) (sym c.loop-run.invariant.size) within)) (c.loop-run.invariant.last edge within);
}
