use Rattle.std.proofs.Common.{◌||◌, ap, ◌∙◌, take}
use Rattle.rev_manifest.specs.Names.{has_path}
use Rattle.rev_manifest.proofs.NameLemmas.{names_more}
use Rattle.rev_patched.specs.Orders.{ordered_paths}
use Rattle.rev_patched.proofs.OrderLemmas.{ordered-more}
use Rattle.rev_patched.proofs.same.add_ordered.Goals as goal

pub loop-order-preserved : goal.loop-order-preserved
loop-order-preserved c = λ path.
    let orders = c.args.orders.now in
    let i = c.loop-order.order-index in
    let o = c.order-item.result in
    ap (λ keys. has_path keys path) c.in_ok-insert.ensures.keys
    ∙ names_more c.loop-order.set.keys c.args.set.now.keys (ordered_paths (take i orders)) c.in_ok-copy.field-0 o.path.now path c.in_ok-copy.ensures.equal (c.loop-order.invariant path)
    ∙ ap (λ ps. has_path c.args.set.now.keys path || has_path ps path) (ordered-more orders i o c.loop-order-test.true c.order-item.is)
