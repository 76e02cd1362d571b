use Rattle.std.proofs.Common.{◌≡◌, false, inl, inr, length, get_or, replicate, arith, rules, ap, sym, ◌∙◌}
use Rattle.std.proofs.lemmas.List.Elements.{Contains-get_or}
use Rattle.rev_ranks.specs.Graph.{graph_of}
use Rattle.rev_ranks.proofs.Ways.{nodes_are}
use Rattle.rev_ranks.proofs.Marks.{marked_within}
use Rattle.rev_ranks.proofs.WalkLemmas.{walk-none}
use Rattle.rev_ranks.proofs.leaving.leaving_order.Goals as goal

pub loop-root-init : goal.loop-root-init
loop-root-init c =
    let graph = graph_of c.args.successors.now in
    let fresh : c.in_ok-met.met.items ≡ replicate (length c.args.successors.now) false = search rules in
    let none : c.in_ok-taken.taken.items ≡ replicate (length c.args.successors.now) 0 = search rules in
    record {
      walk = walk-none graph c.in_ok-met.met.items c.in_ok-taken.taken.items c.new-path.result.items c.in_ok-left.left.items (fresh ∙ ap (λ n. replicate n false) (sym (nodes_are c.args.successors.now)))
          (none ∙ ap (λ n. replicate n 0) (sym (nodes_are c.args.successors.now))) c.new-path.ensures.items c.in_ok-left.ensures.items;
      path = c.new-path.ensures.items;
      roots = λ n h. absurd (omega (arith, h));
    }

pub returns-clause-all : goal.returns-clause-all
returns-clause-all c = λ n h. elim (c.loop-root.invariant.walk.known n (c.loop-root.invariant.roots n (omega (arith, h, c.loop-root-test.false)))) [
  | inl left ↦ left
  | inr there ↦ absurd (omega (arith, there.1, ap length c.loop-root.invariant.path))
]

pub returns-clause-nodes : goal.returns-clause-nodes
returns-clause-nodes c = λ k d h.
    let walk = c.loop-root.invariant.walk in
    omega (arith, marked_within c.loop-root.met.items (get_or c.loop-root.left.items k d) (walk.left_met (get_or c.loop-root.left.items k d) (Contains-get_or c.loop-root.left.items k d h)), walk.each_met, nodes_are c.args.successors.now)
