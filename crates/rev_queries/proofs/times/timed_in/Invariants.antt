use Rattle.std.proofs.Common.{◌≡◌, take}
use Rattle.std.specs.List.{filter_map}
use Rattle.rev_queries.specs.Times.{timed_by}
use Rattle.rev_queries.proofs.times.timed_in.Given as goal

-- those of the runs so far
abbrev pub invariant-loop-run : goal.invariant-loop-run
invariant-loop-run l = l.all.items ≡ filter_map (timed_by l.times) (take l.run-index l.runs)
