use Rattle.std.proofs.Common.{◌≡◌, None, Some, Option, IfOk, Result, ap, refl, sym, subst}
use Rattle.std.proofs.lemmas.Result.{IfOk-weaker}
use Rattle.rev_graph.specs.declared.fault.GraphFault.{GraphFault}
use Rattle.rev_manifest.specs.Manifest.{ManifestValue}
use Rattle.rev_graph.specs.Decided.{graph_fault}
use Rattle.rev_graph.proofs.DecidedLemmas.{fault-decided, faultless-decided}
use Rattle.rev_script.specs.declared.fault.RunFault.{RunFault}
use Rattle.rev_script.specs.declared.status.Status.{Status}
use Rattle.rev_script.specs.declared.status.Status.TheVariants.{Success, Fault}
use Rattle.rev_script.specs.Output.{Writes}
use Rattle.std.specs.Cow.{cow_slice_items}
use Rattle.rev_report.specs.Report.{Report, edges_report, trace_report, unless_fault}
use Rattle.rev_script.specs.Lines.{edges_fault_line}
use Rattle.rev_report.proofs.report.report_edges.Goals as goal

pub returns-in-Ok-clause-text : goal.returns-in-Ok-clause-text
returns-in-Ok-clause-text g c =
    let none : graph_fault c.args.manifest.now.builds ≡ None = faultless-decided c.args.manifest.now.builds c.in-Ok.ensures.faultless in
    let P : Option GraphFault → Type 0 = λ fault.
    Writes c.report_trace.result (g.W.Write.contents c.args.writer.now) (g.W.Write.contents c.report_trace.new.writer) (unless_fault fault edges_fault_line (trace_report c.args.manifest.now (cow_slice_items c.args.trace.now) c.args.script.now)).text in
    let Q : ManifestValue → Type 0 = λ m.
    Writes c.report_trace.result (g.W.Write.contents c.args.writer.now) (g.W.Write.contents c.report_trace.new.writer) (trace_report m (cow_slice_items c.args.trace.now) c.args.script.now).text in
    subst P (sym none) (subst Q c.in-Ok.ensures.value c.report_trace.ensures.text)

pub returns-in-Ok-clause-status : goal.returns-in-Ok-clause-status
returns-in-Ok-clause-status g c =
    let none : graph_fault c.args.manifest.now.builds ≡ None = faultless-decided c.args.manifest.now.builds c.in-Ok.ensures.faultless in
    let P : Option GraphFault → Type 0 = λ fault.
    IfOk c.report_trace.result (λ (status : Status). status ≡ (unless_fault fault edges_fault_line (trace_report c.args.manifest.now (cow_slice_items c.args.trace.now) c.args.script.now)).status) in
    let Q : ManifestValue → Type 0 = λ m. IfOk c.report_trace.result (λ (status : Status). status ≡ (trace_report m (cow_slice_items c.args.trace.now) c.args.script.now).status) in
    subst P (sym none) (subst Q c.in-Ok.ensures.value c.report_trace.ensures.status)

pub returns-in-Err-clause-text : goal.returns-in-Err-clause-text
returns-in-Err-clause-text g c =
    c.report_graph_fault.ensures.text (edges_report c.args.manifest.now (cow_slice_items c.args.trace.now) c.args.script.now).text
    (λ other. ap (λ fault. (unless_fault fault edges_fault_line (trace_report c.args.manifest.now (cow_slice_items c.args.trace.now) c.args.script.now)).text)
    (fault-decided c.args.manifest.now.builds c.in-Err.fault other c.in-Err.ensures.fault))

pub returns-in-Err-clause-status : goal.returns-in-Err-clause-status
returns-in-Err-clause-status g c =
    c.report_graph_fault.ensures.status (edges_report c.args.manifest.now (cow_slice_items c.args.trace.now) c.args.script.now).status
    (λ other. ap (λ fault. (unless_fault fault edges_fault_line (trace_report c.args.manifest.now (cow_slice_items c.args.trace.now) c.args.script.now)).status)
    (fault-decided c.args.manifest.now.builds c.in-Err.fault other c.in-Err.ensures.fault))

-- a fault of a graph is no success
pub returns-in-Err-clause-desk : goal.returns-in-Err-clause-desk
returns-in-Err-clause-desk g c =
    IfOk-weaker c.report_graph_fault.result _ _ (λ s is other. cc) (c.report_graph_fault.ensures.status Fault (λ _. refl))

pub returns-in-Err-clause-trace : goal.returns-in-Err-clause-trace
returns-in-Err-clause-trace g c =
    IfOk-weaker c.report_graph_fault.result _ _ (λ s is other. cc) (c.report_graph_fault.ensures.status Fault (λ _. refl))

pub returns-in-Err-clause-let_go : goal.returns-in-Err-clause-let_go
returns-in-Err-clause-let_go g c =
    IfOk-weaker c.report_graph_fault.result _ _ (λ s is other. cc) (c.report_graph_fault.ensures.status Fault (λ _. refl))
