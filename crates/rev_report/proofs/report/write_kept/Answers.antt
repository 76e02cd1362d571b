use Rattle.std.proofs.Common.{◌∙◌, ap}
use Rattle.rev_script.specs.Lines.{kept_line}
use Rattle.rev_script.proofs.OutputLemmas.{goes-on, stops-in, writes-err}
use Rattle.rev_report.proofs.ReportLemmas.{flat_next_number}
use Rattle.rev_report.proofs.report.write_kept.Goals as goal

pub returns-in_err-send : goal.returns-in_err-send
returns-in_err-send g c =
    writes-err _ _ _ _ _ c.from_residual-in_err-send.ensures.1
    (stops-in _ _ _ _ _ _ _ _ c.loop-number.invariant (flat_next_number _ _ _ c.loop-number-test.true)
    (c.deref.ensures.value ∙ c.in_ok-line.ensures ∙ ap (kept_line _) c.in-Some.ensures) c.in_err-send.ensures)

pub loop-number-preserved : goal.loop-number-preserved
loop-number-preserved g c =
    goes-on _ _ _ _ _ _ _ _ c.loop-number.invariant (flat_next_number _ _ _ c.loop-number-test.true)
    (c.deref.ensures.value ∙ c.in_ok-line.ensures ∙ ap (kept_line _) c.in-Some.ensures) c.in_ok-send.ensures
