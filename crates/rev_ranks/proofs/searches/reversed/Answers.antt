use Rattle.std.proofs.Common.{◌≡◌, ◌++◌, ◌∷◌, [], ℕ, List, length, arith, ap, subst, sym, ◌∙◌}
use Rattle.std.specs.Global.{Vec}
use Rattle.std.proofs.lemmas.List.{length_push}
use Rattle.rev_ranks.specs.Graph.{graph_of, Steps}
use Rattle.rev_ranks.specs.Sets.{AreReversed}
use Rattle.rev_ranks.proofs.Ways.{nodes_are, steps_from_node, successors_are}
use Rattle.rev_ranks.proofs.ReversedLemmas.{adding-of, all-inside, reversed-all, reversed-more, reversed-none, steps-push}
use Rattle.rev_ranks.proofs.searches.reversed.Goals as goal

pub loop-preserved : goal.loop-preserved
loop-preserved c =
    let e : c.push.new.self.items ≡ c.loop.reversed.items ++ c.new.result ∷ [] = c.in_ok-push.ensures.items in
    record {
      length_is = omega (arith, ap length e, length_push c.loop.reversed.items c.new.result, c.loop.invariant.length_is);
      empty = λ s n h. steps-push c.loop.reversed.items c.new.result c.new.ensures.items c.loop.invariant.empty s n (subst (λ (xs : List (Vec ℕ)). Steps (graph_of xs) s n) e h);
    }

pub loop-node-init : goal.loop-node-init
loop-node-init c =
    reversed-none (graph_of c.args.successors.now) (graph_of c.loop.reversed.items) (omega (arith, nodes_are c.args.successors.now, nodes_are c.loop.reversed.items, c.loop.invariant.length_is)) c.loop.invariant.empty

pub loop-node-preserved : goal.loop-node-preserved
loop-node-preserved c =
    reversed-more (graph_of c.args.successors.now) c.loop-node.node _ _ c.loop-node.invariant
    (adding-of c.loop-node.node _ _ _ _
    (successors_are c.args.successors.now c.loop-node.node c.index-successors-node.result c.loop-node-test.true c.index-successors-node.is ∙ sym c.deref.ensures.value) c.in_ok-push_back_steps.ensures)

pub returns-clause-steps : goal.returns-clause-steps
returns-clause-steps c =
    let all : c.loop-node.node ≡ length (graph_of c.args.successors.now) = omega (arith, nodes_are c.args.successors.now) in
    reversed-all (graph_of c.args.successors.now) (graph_of c.loop-node.reversed.items)
    (subst (λ n. AreReversed (graph_of c.args.successors.now) n (graph_of c.loop-node.reversed.items)) all c.loop-node.invariant)

pub returns-clause-inside : goal.returns-clause-inside
returns-clause-inside c =
    all-inside c.loop-node.reversed.items (length c.args.successors.now)
    (λ s n h. omega (arith, steps_from_node (graph_of c.args.successors.now) n s (c.loop-node.invariant.forth n s h), nodes_are c.args.successors.now))
