use Rattle.std.proofs.Common.{◌≡◌, ◌≢◌, None, Some, ap, sym, subst, ◌∙◌}
use Rattle.std.specs.Io.KnownBytes.{Appends}
use Rattle.rev_graph.specs.declared.fault.GraphFault.TheVariants.{Memory}
use Rattle.rev_graph.specs.Fault.{code_of, path_of}
use Rattle.rev_script.specs.Lines.{graph_fault_line, numbered_line}
use Rattle.rev_script.proofs.fault_report.report_graph_fault.Goals as goal

pub returns-clause-text : goal.returns-clause-text
returns-clause-text g c = λ text wanted.
    let numbered : c.args.fault.now ≢ Memory = λ e. (let no : Some c.in-Some.code ≡ None = c.in-Some.ensures ∙ ap code_of e in cc) in
    let is : text ≡ c.deref.result.now =
    wanted numbered ∙ ap (numbered_line (path_of c.args.fault.now)) (sym c.in-Some.ensures) ∙ ap (graph_fault_line c.in-Some.code) (sym c.path.ensures)
    ∙ sym c.in_ok-line.ensures ∙ sym c.deref.ensures.value in
    subst (Appends (g.W.Write.contents c.args.writer.now) (g.W.Write.contents c.send.new.writer)) (sym is) c.in_ok-send.ensures
