use Rattle.std.proofs.Common.{◌<◌, ◌+◌, ◌++◌, ◌∙◌, ap, subst, arith}
use Rattle.rev_trace.specs.Traces.{lanes_of}
use Rattle.rev_script.specs.LeftTurns.{round_of, seen_left}
use Rattle.rev_script.specs.SeenTurns.{seen_turns}
use Rattle.rev_script.specs.Turns.{longest}
use Rattle.rev_script.proofs.TurnLemmas.{done_adds_nothing, rounds_more}
use Rattle.rev_script.proofs.turns.turns_of.Goals as goal

pub loop-place-preserved : goal.loop-place-preserved
loop-place-preserved c =
    let lanes = lanes_of c.args.lanes.now in
    let place = c.loop-place.place in
    let so_far = seen_turns c.loop-place.turns.items in
    let before = seen_left c.loop-place.left.items in
    let within : place < longest lanes = subst (λ n. place < n) c.longest-place-end.ensures c.loop-place-test.true in
    record {
      left = λ p le. ap (round_of p) c.drop_done.ensures ∙ done_adds_nothing before (place + 1) p le ∙ c.loop-place.invariant.left p (omega (arith, le));
      added = rounds_more lanes so_far _ _ (longest lanes) place within
          (c.in_ok-push_round.ensures ∙ ap (λ l. so_far ++ round_of place (seen_left l)) c.deref.ensures.value ∙ ap (λ l. so_far ++ l) (c.loop-place.invariant.left place (omega arith)))
          c.loop-place.invariant.added;
    }
