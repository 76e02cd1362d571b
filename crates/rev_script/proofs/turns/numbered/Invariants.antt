use Rattle.std.proofs.Common.{◌≡◌, ◌++◌, drop}
use Rattle.std.specs.List.{enumerate_from}
use Rattle.rev_trace.specs.Traces.{lanes_of}
use Rattle.rev_script.specs.LeftTurns.{seen_left}
use Rattle.rev_script.proofs.turns.numbered.Given as goal

-- those so far, and the others
abbrev pub invariant-loop-commands : goal.invariant-loop-commands
invariant-loop-commands l = record {
  number : l.lane ≡ l.commands-index;
  added : seen_left l.left.items ++ enumerate_from l.lane (lanes_of (drop l.commands-index l.lanes)) ≡ enumerate_from 0 (lanes_of l.lanes);
}
