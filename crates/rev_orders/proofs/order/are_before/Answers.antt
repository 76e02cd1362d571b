use Rattle.std.proofs.Common.{◌<◌, get_or, subst, arith}
use Rattle.std.specs.List.{All}
use Rattle.std.proofs.lemmas.List.{take_all}
use Rattle.std.proofs.lemmas.List.Elements.{All-more}
use Rattle.rev_orders.proofs.order.are_before.Goals as goal

pub loop-node-preserved : goal.loop-node-preserved
loop-node-preserved c = All-more (λ s. get_or c.args.places.now s 0 < c.args.place) c.args.nodes.now c.loop-node.node-index 0 c.loop-node-test.true c.loop-node.invariant (omega (arith, c.if-places-node.false))

pub returns : goal.returns
returns c = subst (All (λ s. get_or c.args.places.now s 0 < c.args.place)) (take_all c.loop-node.node-index c.args.nodes.now c.loop-node-test.false) c.loop-node.invariant
