use Rattle.std.proofs.Common.{◌≡◌, max, drop}
use Rattle.rev_trace.specs.Traces.{lanes_of}
use Rattle.rev_script.specs.Turns.{longest}
use Rattle.rev_script.proofs.turns.longest.Given as goal

-- the longest so far and the longest of the others
abbrev pub invariant-loop-commands : goal.invariant-loop-commands
invariant-loop-commands l = max l.most (longest (lanes_of (drop l.commands-index l.lanes))) ≡ longest (lanes_of l.lanes)
