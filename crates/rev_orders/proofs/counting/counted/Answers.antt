use Rattle.std.proofs.Common.{◌≡◌, ◌<◌, ◌+◌, ℕ, List, length, subst, sym, ap, ◌∙◌, arith}
use Rattle.rev_ranks.specs.Graph.{graph_of}
use Rattle.rev_ranks.proofs.Ways.{nodes_are}
use Rattle.rev_orders.specs.Orders.{at}
use Rattle.rev_orders.specs.Pairs.{places_of, AreCounts}
use Rattle.rev_orders.proofs.LeftPairs.{all_room, counts_room, counts_step, marks_few, nodes_within, written_back}
use Rattle.rev_orders.proofs.counting.counted.Goals as goal

pub overflow_add-unordered : goal.overflow_add-unordered
overflow_add-unordered c =
    let room = all_room (graph_of c.args.successors.now) c.args.commands.now c.args.first.now.nodes.items c.args.first.now.places.items (places_of c.args.others.now) c.loop-place.place c.loop-place.unordered c.loop-place.left.items
    c.loop-place.invariant (omega (arith, c.loop-place-test.true, c.requires.small)) in
    let few = marks_few c.in_ok-row.row.items c.deref.result.now c.loop-place.place c.deref.ensures.value c.in_ok-row.ensures.each in
    omega (arith, room, few, c.marks_of-unordered.ensures)

pub add_row-requires-clause-nodes : goal.add_row-requires-clause-nodes
add_row-requires-clause-nodes c = λ k d l j e m.
    let here = c.requires.others k d l in
    omega (arith, here.each_place, nodes_within (graph_of c.args.successors.now) c.args.first.now.nodes.items c.args.first.now.places.items c.nodes.result.now c.requires.first c.nodes.ensures j e m)

pub add_row-requires-clause-room : goal.add_row-requires-clause-room
add_row-requires-clause-room c = λ i.
    subst (λ (ls : List ℕ). at ls i + c.loop-place.place < 18446744073709551616) (sym c.deref_mut.ensures.value)
    (counts_room (graph_of c.args.successors.now) c.args.commands.now c.args.first.now.nodes.items c.args.first.now.places.items (places_of c.args.others.now) c.loop-place.place c.loop-place.unordered c.loop-place.left.items
    c.loop-place.invariant (omega (arith, c.loop-place-test.true, c.requires.small)) i)

pub loop-place-preserved : goal.loop-place-preserved
loop-place-preserved c =
    let graph = graph_of c.args.successors.now in
    let each : length c.add_row.new.left ≡ c.loop-place.left.len = omega (arith, c.add_row.ensures.each, ap length c.deref_mut.ensures.value, c.loop-place.left.ok.0) in
    subst (λ (ls : List ℕ). AreCounts graph c.args.commands.now c.args.first.now.nodes.items c.args.first.now.places.items (places_of c.args.others.now) (c.loop-place.place + 1) (c.loop-place.unordered + c.marks_of-unordered.result) ls)
    (sym (written_back c.loop-place.left.len c.add_row.new.left c.loop-place.left.items each))
    (counts_step graph c.args.commands.now c.args.first.now.nodes.items c.nodes.result.now c.args.first.now.places.items c.args.others.now c.loop-place.place c.loop-place.unordered c.loop-place.left.items c.deref_mut.result.now
    c.in_ok-row.row.items c.deref.result.now c.deref_mut-in-loop-place.result.now c.add_row.new.row c.add_row.new.left c.marks_of-unordered.result
    c.loop-place.invariant c.requires.first (omega (arith, c.loop-place-test.true, nodes_are c.args.successors.now)) c.requires.others c.in_ok-row.ensures c.deref.ensures.value c.marks_of-unordered.ensures c.nodes.ensures
    c.deref_mut-in-loop-place.ensures.value c.deref_mut.ensures.value c.add_row.ensures)
