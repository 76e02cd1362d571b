use Rattle.std.proofs.Common.{◌≡◌, ◌+◌, drop, length}
use Rattle.rev_report.specs.Runs.{after_turns, answers_text, until_break}
use Rattle.rev_script.specs.SeenTurns.{seen_turns}
use Rattle.rev_script.specs.Turns.{AreOf}
use Rattle.rev_script.proofs.OutputLemmas.{Leads}
use Rattle.rev_report.proofs.runs.run_turns.Given as goal

-- the turns so far were taken, and what is taken of the others leads where all that is taken does
abbrev pub invariant-loop-turn : goal.invariant-loop-turn
invariant-loop-turn g l = record {
  text : Leads (g.W.Write.contents l.fn.writer) (answers_text l.fn.desk (until_break l.fn.desk (seen_turns l.turns))) (g.W.Write.contents l.writer) (answers_text l.desk (until_break l.desk (seen_turns (drop l.turn-index l.turns))));
  after : after_turns l.desk (until_break l.desk (seen_turns (drop l.turn-index l.turns))) ≡ after_turns l.fn.desk (until_break l.fn.desk (seen_turns l.turns));
  taken : l.count + length (until_break l.desk (seen_turns (drop l.turn-index l.turns))) ≡ length (until_break l.fn.desk (seen_turns l.turns));
  count : l.count ≡ l.turn-index;
  lanes : l.desk.lanes ≡ l.fn.desk.lanes;
  of_lanes : AreOf l.fn.desk.lanes (seen_turns (drop l.turn-index l.turns));
}
