use Rattle.std.proofs.Common.{◌<◌, length, arith}
use Rattle.rev_patched.proofs.OrderLemmas.{pushed}
use Rattle.rev_patched.proofs.orders.push_order.Goals as goal

pub returns-in_ok-push-clause-listed : goal.returns-in_ok-push-clause-listed
returns-in_ok-push-clause-listed c = λ edge inside.
    let within : c.args.order.now.edge < length c.args.lists.now.items = omega (arith, c.if-edge-len.true, c.len.ensures) in
    pushed c.args.lists.now.items c.args.order.now c.in_ok-path.path c.index_mut-list.result.now c.push.new.self within c.index_mut-list.ensures.value c.in_ok-push.ensures.items c.in_ok-path.ensures.equal edge inside
