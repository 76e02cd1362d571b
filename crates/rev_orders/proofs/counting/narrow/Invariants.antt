use Rattle.rev_orders.specs.Pairs.{is_before, IsNarrowed}
use Rattle.rev_orders.proofs.counting.narrow.Given as goal

abbrev pub invariant-loop-other : goal.invariant-loop-other
invariant-loop-other l = IsNarrowed l.fn.row (is_before l.nodes l.place l.places) l.other l.row l.left
