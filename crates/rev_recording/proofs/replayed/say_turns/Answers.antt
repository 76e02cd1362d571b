use Rattle.std.proofs.Common.{◌≡◌, ◌+◌, ◌∷◌, ◌∙◌, ap, drop, sym}
use Rattle.rev_report.specs.Answers.{after_answer}
use Rattle.rev_report.specs.Runs.{after_turns}
use Rattle.rev_script.specs.SeenTurns.{seen_turns}
use Rattle.rev_report.proofs.RunLemmas.{of_next, seen_next}
use Rattle.rev_recording.proofs.replayed.say_turns.Goals as goal

pub loop-turn-preserved : goal.loop-turn-preserved
loop-turn-preserved c =
    let next = seen_next c.args.turns.now c.loop-turn.turn-index c.turn-item.result c.loop-turn-test.true c.turn-item.is in
    let rest = seen_turns (drop (c.loop-turn.turn-index + 1) c.args.turns.now) in record {
      after = ap (λ d. after_turns d rest) c.in_ok-say.ensures.after
          ∙ (ap (λ x. after_turns (after_answer c.loop-turn.desk c.turn-item.result.lane x) rest) c.in_ok-command.ensures
          ∙ (ap (after_turns c.loop-turn.desk) (sym next) ∙ c.loop-turn.invariant.after));
      lanes = c.in_ok-say.ensures.lanes ∙ c.loop-turn.invariant.lanes;
      of_lanes = (of_next _ _ _ _ next c.loop-turn.invariant.of_lanes).1;
    }
