use Rattle.std.proofs.Common.{◌≡◌}
use Rattle.std.specs.List.{flat_map, range_with_len}
use Rattle.rev_entry_conflicts.specs.Conflicts.{of_user}
use Rattle.rev_entry_conflicts.specs.Orders.{scene}
use Rattle.rev_entry_conflicts.proofs.answer.conflicts.Given as goal

abbrev pub invariant-loop-used_by : goal.invariant-loop-used_by
invariant-loop-used_by l = l.found.items ≡ flat_map (of_user (scene l.steps l.entries l.commands)) (range_with_len 0 l.used_by)
