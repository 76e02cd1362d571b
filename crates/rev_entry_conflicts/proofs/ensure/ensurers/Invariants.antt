use Rattle.std.proofs.Common.{◌≡◌}
use Rattle.std.specs.List.{filter, range_with_len}
use Rattle.rev_entry_conflicts.specs.Ensures.{ensures_of}
use Rattle.rev_entry_conflicts.proofs.ensure.ensurers.Given as goal

abbrev pub invariant-loop-number : goal.invariant-loop-number
invariant-loop-number l = l.numbers.items ≡ filter (ensures_of l.commands l.entry) (range_with_len 0 l.number)
