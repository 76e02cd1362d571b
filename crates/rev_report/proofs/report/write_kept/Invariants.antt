use Rattle.std.proofs.Common.{drop}
use Rattle.std.specs.List.{flat_map}
use Rattle.rev_history.specs.Timeline.{event_at}
use Rattle.rev_report.specs.Report.{kept_text}
use Rattle.rev_script.specs.Lines.{kept_line}
use Rattle.rev_script.proofs.OutputLemmas.{Leads}
use Rattle.rev_report.proofs.report.write_kept.Given as goal

-- the lines so far were written
abbrev pub invariant-loop-number : goal.invariant-loop-number
invariant-loop-number g l =
    Leads (g.W.Write.contents l.fn.writer) (kept_text l.history.timeline) (g.W.Write.contents l.writer)
    (flat_map (λ number. kept_line number (event_at l.history.timeline number)) (drop l.number-index l.number-items))
