use Rattle.std.proofs.Common.{◌+◌, drop, sym, refl, ◌∙◌}
use Rattle.rev_report.specs.Report.{script_text}
use Rattle.rev_script.specs.SeenTurns.{seen_turns}
use Rattle.rev_script.proofs.OutputLemmas.{leads-to, goes-on, stops-in, writes-err}
use Rattle.rev_report.proofs.ReportLemmas.{script_next}
use Rattle.rev_report.proofs.report.run_words.Goals as goal

pub returns-in_err-taken-clause-text : goal.returns-in_err-taken-clause-text
returns-in_err-taken-clause-text g c =
    writes-err _ _ _ _ _ c.from_residual.ensures.1
    (stops-in _ _ _ _ _ _ _ _ c.loop-word.invariant.text (script_next _ _ _ _ _ c.word-item.result c.loop-word-test.true c.word-item.is) refl c.in_err-taken.ensures.text)

pub loop-word-preserved : goal.loop-word-preserved
loop-word-preserved g c = record {
  text = leads-to _ _ _ _ _
      (goes-on _ _ _ _ _ _ _ _ c.loop-word.invariant.text (script_next _ _ _ _ _ c.word-item.result c.loop-word-test.true c.word-item.is) refl c.in_ok-taken.ensures.text)
      (λ i. script_text c.args.lane (sym c.in_ok-taken.ensures.after i) (sym c.in_ok-taken.ensures.left i) (drop (c.loop-word.word-index + 1) c.args.words.now));
  lanes = c.in_ok-taken.ensures.lanes ∙ c.loop-word.invariant.lanes;
  within = c.in_ok-taken.ensures.within;
}
