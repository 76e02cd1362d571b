use Rattle.std.proofs.Common.{subst}
use Rattle.rev_graph.specs.Graph.{producer_of}
use Rattle.rev_history.specs.Timeline.{Timeline, state_at}
use Rattle.rev_listing.specs.Logs as logs
use Rattle.rev_listing.specs.Marks as marks
use Rattle.rev_listing.specs.Stamps as stamps
use Rattle.rev_report.specs.Report.{why_edge}
use Rattle.rev_script.specs.Output.{Writes}
use Rattle.rev_report.proofs.report.write_asked.Goals as goal

pub returns-in-Marks : goal.returns-in-Marks
returns-in-Marks g c =
    rw c.in-Marks.is
    (subst (λ (t : Timeline). Writes c.write_marks.result (g.W.Write.contents c.args.writer.now) (g.W.Write.contents c.write_marks.new.writer) (marks.marks_text t.manifest.builds (state_at t)))
    c.history-in-Marks.ensures.history c.write_marks.ensures)

pub returns-in-Stamps : goal.returns-in-Stamps
returns-in-Stamps g c =
    rw c.in-Stamps.is
    (subst (λ (t : Timeline). Writes c.write_stamps.result (g.W.Write.contents c.args.writer.now) (g.W.Write.contents c.write_stamps.new.writer) (stamps.stamps_text (state_at t)))
    c.history-in-Stamps.ensures.history c.write_stamps.ensures)

pub returns-in-Logs : goal.returns-in-Logs
returns-in-Logs g c =
    rw c.in-Logs.is
    (subst (λ (t : Timeline). Writes c.write_logs.result (g.W.Write.contents c.args.writer.now) (g.W.Write.contents c.write_logs.new.writer) (logs.logs_text (state_at t)))
    c.history-in-Logs.ensures.history c.write_logs.ensures)

pub returns-in-Why : goal.returns-in-Why
returns-in-Why g c =
    rw c.in-Why.is
    (subst (λ (t : Timeline). Writes c.write_why.result (g.W.Write.contents c.args.writer.now) (g.W.Write.contents c.write_why.new.writer) (why_edge t.manifest.builds (state_at t) (producer_of t.manifest.builds c.in-Why.out)))
    c.history-in-Why.ensures.history c.write_why.ensures)
