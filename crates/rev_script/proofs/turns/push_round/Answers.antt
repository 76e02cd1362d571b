use Rattle.std.proofs.Common.{◌++◌, ◌∙◌, ap}
use Rattle.rev_script.specs.SeenTurns.{seen_turns}
use Rattle.rev_script.specs.Turns.{turn_of}
use Rattle.rev_script.proofs.TurnLemmas.{round_more}
use Rattle.rev_script.proofs.turns.push_round.Goals as goal

pub loop-lane-preserved : goal.loop-lane-preserved
loop-lane-preserved c =
    let lane = c.lane-item.result in
    let so_far = seen_turns c.loop-lane.turns.items in
    round_more so_far _ _ c.args.place c.args.left.now c.loop-lane.lane-index lane c.loop-lane-test.true c.lane-item.is
    (c.in_ok-push_turn.ensures ∙ ap (λ o. so_far ++ turn_of lane.lane o) c.command_at.ensures) c.loop-lane.invariant
