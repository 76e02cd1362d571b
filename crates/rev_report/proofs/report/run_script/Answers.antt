use Rattle.std.proofs.Common.{subst}
use Rattle.rev_script.specs.Output.{Writes}
use Rattle.rev_report.proofs.RunLemmas.{session_of}
use Rattle.rev_report.proofs.report.run_script.Goals as goal

pub returns-clause-text : goal.returns-clause-text
returns-clause-text g c =
    subst (λ text. Writes c.run_opened-ran.result (g.W.Write.contents c.args.writer.now) (g.W.Write.contents c.run_opened-ran.new.writer) text)
    (session_of c.args.graph.manifest c.args.opening.now c.args.lanes.now c.args.words.now c.in_ok-desk.desk c.in_ok-desk.ensures)
    c.run_opened-ran.ensures
