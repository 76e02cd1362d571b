use Rattle.std.proofs.Common.{◌≡◌, ℕ, List, Err, Some, Option, ap, sym, subst, ◌∙◌}
use Rattle.std.specs.Prelude.{codes}
use Rattle.rev_fields.specs.declared.faults.TextFault.{TextFault}
use Rattle.rev_script.specs.Lines.{text_fault_line}
use Rattle.rev_script.specs.Output.{Writes}
use Rattle.rev_trace.specs.Traces.{trace_fault, trace_of}
use Rattle.rev_report.specs.Report.{script_report, trace_report, unless_fault}
use Rattle.rev_report.proofs.report.report_trace.Goals as goal

-- the text has no fault, and is read as what it says
pub returns-in-Ok-clause-text : goal.returns-in-Ok-clause-text
returns-in-Ok-clause-text g c =
    let text : List ℕ = c.as_slice.result.now in
    let P : List ℕ → Type 0 = λ report.
    Writes c.report_script-reported.result (g.W.Write.contents c.args.writer.now) (g.W.Write.contents c.report_script-reported.new.writer) report in
    subst P
    ((λ i. (script_report c.args.graph.manifest (c.in-Ok.ensures.opening i) (c.in-Ok.ensures.lanes i) c.args.script.now).text)
    ∙ ap (λ fault. (unless_fault fault (text_fault_line (codes "trace")) (script_report c.args.graph.manifest (trace_of text).opening (trace_of text).lanes c.args.script.now)).text) (sym c.in-Ok.ensures.sound)
    ∙ ap (λ t. (trace_report c.args.graph.manifest t c.args.script.now).text) c.as_slice.ensures.value)
    c.report_script-reported.ensures.text

-- the fault that is told is the text's
pub returns-in-Err-Numbered-clause-text : goal.returns-in-Err-Numbered-clause-text
returns-in-Err-Numbered-clause-text g c =
    let text : List ℕ = c.as_slice.result.now in
    let first : trace_fault text ≡ Some c.in-Err-Numbered.fault = c.in-Err-Numbered.ensures.fault c.in-Err-Numbered.fault (ap Err c.in-Err-Numbered.field-0-is) in
    let P : List ℕ → Type 0 = λ report.
    Writes c.report_fault.result (g.W.Write.contents c.args.writer.now) (g.W.Write.contents c.report_fault.new.writer) report in
    subst P
    (ap (λ fault. (unless_fault fault (text_fault_line (codes "trace")) (script_report c.args.graph.manifest (trace_of text).opening (trace_of text).lanes c.args.script.now)).text) (sym first)
    ∙ ap (λ t. (trace_report c.args.graph.manifest t c.args.script.now).text) c.as_slice.ensures.value)
    c.report_fault.ensures.text
