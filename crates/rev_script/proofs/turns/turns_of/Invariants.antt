use Rattle.std.proofs.Common.{◌≡◌, ◌++◌, ◌-◌, ◌≤◌, ℕ}
use Rattle.std.specs.List.{flat_map, range_with_len}
use Rattle.rev_trace.specs.Traces.{lanes_of}
use Rattle.rev_script.specs.LeftTurns.{round_of, seen_left}
use Rattle.rev_script.specs.SeenTurns.{seen_turns}
use Rattle.rev_script.specs.Turns.{longest, round, turns}
use Rattle.rev_script.proofs.turns.turns_of.Given as goal

-- the rounds so far, and the others; the lanes that are left make these
abbrev pub invariant-loop-place : goal.invariant-loop-place
invariant-loop-place l = record {
  left : (p : ℕ) → l.place ≤ p → round_of p (seen_left l.left.items) ≡ round p (lanes_of l.lanes);
  added : seen_turns l.turns.items ++ flat_map (λ place. round place (lanes_of l.lanes)) (range_with_len l.place (longest (lanes_of l.lanes) - l.place)) ≡ turns (lanes_of l.lanes);
}
