use Rattle.std.proofs.Common.{◌≡◌, drop}
use Rattle.rev_report.specs.Runs.{after_turns}
use Rattle.rev_script.specs.SeenTurns.{seen_turns}
use Rattle.rev_script.specs.Turns.{AreOf}
use Rattle.rev_recording.proofs.replayed.say_turns.Given as goal

-- the turns so far were said, and the others lead where all lead
abbrev pub invariant-loop-turn : goal.invariant-loop-turn
invariant-loop-turn l = record {
  after : after_turns l.desk (seen_turns (drop l.turn-index l.turns)) ≡ after_turns l.fn.desk (seen_turns l.turns);
  lanes : l.desk.lanes ≡ l.fn.desk.lanes;
  of_lanes : AreOf l.fn.desk.lanes (seen_turns (drop l.turn-index l.turns));
}
