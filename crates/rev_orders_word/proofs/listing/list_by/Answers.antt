use Rattle.std.proofs.Common.{length, subst, IfSome}
use Rattle.std.specs.List.{All}
use Rattle.rev_ranks.specs.Graph.{graph_of}
use Rattle.rev_graph.specs.Graph.{successor_lists}
use Rattle.rev_graph.proofs.StepLemmas.{all-within, length-successors}
use Rattle.rev_orders.specs.declared.order.Order.{Order}
use Rattle.rev_orders.specs.Orders.{IsOrder}
use Rattle.rev_orders.specs.Pairs.{AreCounts, places_of}
use Rattle.rev_orders_word.proofs.listing.list_by.Goals as goal

pub nearest-requires-clause-inside : goal.nearest-requires-clause-inside
nearest-requires-clause-inside c = all-within c.args.graph.now.manifest.builds c.args.steps.now c.requires.steps

pub choose-requires-clause-inside : goal.choose-requires-clause-inside
choose-requires-clause-inside c = all-within c.args.graph.now.manifest.builds c.args.steps.now c.requires.steps

pub returns : goal.returns
returns c =
    let builds = c.args.graph.now.manifest.builds in
    let steps = c.args.steps.now in
    let first = c.in-Some.first in
    let chosen = c.in_ok-chosen.chosen in
    let count = length-successors builds steps c.requires.steps in
    let is : IsOrder (graph_of steps) first.nodes.items first.places.items =
    subst (λ it. IfSome it (λ (o : Order). IsOrder (graph_of steps) o.nodes.items o.places.items)) c.in-Some.is c.in_ok-first.ensures in
    record {
      first = subst (λ g. IsOrder g first.nodes.items first.places.items) c.requires.steps is;
      others = subst (λ g. All (λ (o : Order). IsOrder g o.nodes.items o.places.items) chosen.others.items) c.requires.steps
          c.in_ok-chosen.ensures.orders;
      counts = subst (λ m. AreCounts (successor_lists builds) m first.nodes.items first.places.items
          (places_of chosen.others.items) (length builds) chosen.counts.unordered chosen.counts.left.items)
          c.deref-2.ensures.value
          (subst (λ g. AreCounts g c.deref-2.result.now first.nodes.items first.places.items
          (places_of chosen.others.items) (length builds) chosen.counts.unordered chosen.counts.left.items) c.requires.steps
          (subst (λ n. AreCounts (graph_of steps) c.deref-2.result.now first.nodes.items first.places.items
          (places_of chosen.others.items) n chosen.counts.unordered chosen.counts.left.items) count
          c.in_ok-chosen.ensures.counts));
    }
