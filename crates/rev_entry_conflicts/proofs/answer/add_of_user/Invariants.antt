use Rattle.std.proofs.Common.{◌≡◌, ◌++◌}
use Rattle.std.specs.List.{flat_map, range_with_len}
use Rattle.rev_entry_conflicts.specs.Conflicts.{of_numbers}
use Rattle.rev_entry_conflicts.specs.Orders.{scene}
use Rattle.rev_entry_conflicts.proofs.answer.add_of_user.Given as goal

abbrev pub invariant-loop-made_by : goal.invariant-loop-made_by
invariant-loop-made_by l = l.found.items ≡ l.initial.found.items ++ flat_map (of_numbers (scene l.steps l.entries l.commands) l.used_by) (range_with_len 0 l.made_by)
