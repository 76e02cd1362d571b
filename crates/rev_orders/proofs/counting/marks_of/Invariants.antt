use Rattle.std.proofs.Common.{◌≡◌}
use Rattle.rev_ranks.specs.Sets.{is_marked}
use Rattle.rev_orders.specs.Pairs.{count}
use Rattle.rev_orders.proofs.counting.marks_of.Given as goal

abbrev pub invariant-loop-place : goal.invariant-loop-place
invariant-loop-place l = l.marks ≡ count (is_marked l.row) l.place
