use Rattle.std.proofs.Common.{◌≡◌, ◌++◌, drop}
use Rattle.rev_script.specs.LeftTurns.{round_of, seen_left}
use Rattle.rev_script.specs.SeenTurns.{seen_turns}
use Rattle.rev_script.proofs.turns.push_round.Given as goal

-- those so far, and those of the other lanes
abbrev pub invariant-loop-lane : goal.invariant-loop-lane
invariant-loop-lane l =
    seen_turns l.turns.items ++ round_of l.place (seen_left (drop l.lane-index l.left)) ≡ seen_turns l.fn.turns.items ++ round_of l.place (seen_left l.left)
