use Rattle.std.proofs.Common.{◌≡◌}
use Rattle.std.specs.Prelude.{filter}
use Rattle.std.specs.List.{range_with_len}
use Rattle.rev_runs.specs.Edges.{is_event_of}
use Rattle.rev_runs.proofs.edges.events_of.Given as goal

-- those of the numbers so far
abbrev pub invariant-loop-passed : goal.invariant-loop-passed
invariant-loop-passed l = l.numbers.items ≡ filter (is_event_of l.history.timeline l.edge) (range_with_len 1 l.passed)
