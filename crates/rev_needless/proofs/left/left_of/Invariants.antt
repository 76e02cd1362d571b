use Rattle.std.proofs.Common.{◌≡◌}
use Rattle.std.specs.List.{filter_map, range_with_len}
use Rattle.rev_needless.specs.Without.{left_at}
use Rattle.rev_needless.proofs.left.left_of.Given as goal

abbrev pub invariant-loop-place : goal.invariant-loop-place
invariant-loop-place l = l.left.items ≡ filter_map (left_at l.nexts l.marks) (range_with_len 0 l.place)
