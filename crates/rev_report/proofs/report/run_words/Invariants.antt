use Rattle.std.proofs.Common.{◌≡◌, ◌≤◌, drop, length}
use Rattle.rev_report.specs.Report.{script_text}
use Rattle.rev_script.specs.SeenTurns.{seen_turns}
use Rattle.rev_script.proofs.OutputLemmas.{Leads}
use Rattle.rev_report.proofs.report.run_words.Given as goal

-- the words so far were done
abbrev pub invariant-loop-word : goal.invariant-loop-word
invariant-loop-word g l = record {
  text : Leads (g.W.Write.contents l.fn.writer) (script_text l.lane l.fn.desk (seen_turns l.turns) l.words) (g.W.Write.contents l.writer) (script_text l.lane l.desk (drop l.taken (seen_turns l.turns)) (drop l.word-index l.words));
  lanes : l.desk.lanes ≡ l.fn.desk.lanes;
  within : l.taken ≤ length l.turns;
}
