use Rattle.std.proofs.Common.{◌≡◌, ◌<◌, ◌&&◌, ℕ, List, [], length, map, get_or, arith, ap, sym, ◌∙◌}
use Rattle.std.proofs.lemmas.List.{get_or-map, length-map}
use Rattle.rev_ranks.specs.Sets.{is_marked}
use Rattle.rev_orders.specs.declared.order.Order.{Order}
use Rattle.rev_orders.specs.Pairs.{is_before, places_of}
use Rattle.rev_orders.proofs.Rows.{added_more, count_within}
use Rattle.rev_orders.proofs.counting.add_row.Goals as goal

pub overflow_add-left : goal.overflow_add-left
overflow_add-left c =
    let here = c.loop-order.invariant.kept c.loop-order.order (omega arith) in
    let room = c.requires.room c.loop-order.order in
    let few = count_within (λ j. is_marked c.loop-order.row j && is_before c.args.nodes.now c.args.place c.places.result.now j) c.args.place in
    omega (arith, here, room, few, c.narrow-more.ensures.left_is)

pub loop-order-preserved : goal.loop-order-preserved
loop-order-preserved c =
    let others = c.args.others.now in
    let within : c.loop-order.order < length others = c.loop-order-test.true in
    let is : c.places.result.now ≡ get_or (places_of others) c.loop-order.order [] =
    c.places.ensures ∙ ap (λ (o : Order). o.places.items) c.index-others-order.is ∙ sym (get_or-map (λ (o : Order). o.places.items) others c.loop-order.order c.index-others-order.result [] within) in
    added_more c.args.nodes.now c.args.place (places_of others) c.args.row.now c.args.left.now c.loop-order.order c.loop-order.row c.loop-order.left c.places.result.now c.narrow-more.new.row c.narrow-more.result c.loop-order.invariant
    (omega (arith, within, length-map others (λ (o : Order). o.places.items))) (omega (arith, within, c.requires.each, c.loop-order.invariant.each)) is c.narrow-more.ensures
