use Rattle.std.proofs.Common.{◌<◌, subst, arith}
use Rattle.std.specs.List.{All}
use Rattle.std.proofs.lemmas.List.{take_all}
use Rattle.std.proofs.lemmas.List.Elements.{All-more}
use Rattle.orders_runs.proofs.are_nodes.Goals as goal

pub loop-node-preserved : goal.loop-node-preserved
loop-node-preserved c = All-more (λ s. s < c.args.count) c.args.nodes.now c.loop-node.node-index 0 c.loop-node-test.true c.loop-node.invariant (omega arith)

pub returns : goal.returns
returns c = subst (All (λ s. s < c.args.count)) (take_all c.loop-node.node-index c.args.nodes.now c.loop-node-test.false) c.loop-node.invariant
