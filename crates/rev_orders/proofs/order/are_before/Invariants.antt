use Rattle.std.proofs.Common.{◌<◌, get_or, take}
use Rattle.std.specs.List.{All}
use Rattle.rev_orders.proofs.order.are_before.Given as goal

abbrev pub invariant-loop-node : goal.invariant-loop-node
invariant-loop-node l = All (λ s. get_or l.places s 0 < l.place) (take l.node-index l.nodes)
