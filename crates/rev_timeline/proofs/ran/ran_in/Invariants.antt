use Rattle.std.proofs.Common.{◌≡◌, take}
use Rattle.std.specs.List.{filter_map}
use Rattle.rev_timeline.specs.Ran.{ran_by}
use Rattle.rev_timeline.proofs.ran.ran_in.Given as goal

-- those of the runs so far
abbrev pub invariant-loop-run : goal.invariant-loop-run
invariant-loop-run l = l.all.items ≡ filter_map (ran_by l.history.timeline l.times) (take l.run-index l.runs)
