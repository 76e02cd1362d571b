use Rattle.std.proofs.Common.{◌&&◌, not}
use Rattle.rev_ranks.specs.Sets.{is_marked}
use Rattle.rev_orders.specs.Orders.{at}
use Rattle.rev_orders.specs.Pairs.{IsRow}
use Rattle.rev_orders.proofs.counting.row_by.Given as goal

abbrev pub invariant-loop-other : goal.invariant-loop-other
invariant-loop-other l = IsRow (λ j. is_marked l.commands (at l.nodes j) && (is_marked l.commands (at l.nodes l.place) && not (is_marked l.waited (at l.nodes j)))) l.other l.row.items
