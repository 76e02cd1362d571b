use Rattle.rev_orders.specs.Pairs.{places_of, IsAdded}
use Rattle.rev_orders.proofs.counting.add_row.Given as goal

abbrev pub invariant-loop-order : goal.invariant-loop-order
invariant-loop-order l = IsAdded l.nodes l.place (places_of l.others) l.fn.row l.fn.left l.order l.row l.left
