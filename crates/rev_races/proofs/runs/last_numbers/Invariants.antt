use Rattle.std.proofs.Common.{take}
use Rattle.rev_races.proofs.RunLemmas.{AreLastBy}
use Rattle.rev_races.proofs.runs.last_numbers.Given as goal

abbrev pub invariant-loop-number : goal.invariant-loop-number
invariant-loop-number l = AreLastBy l.history.timeline l.step l.bounds (take l.number-index l.history.timeline.kept) l.last.items
