use Rattle.std.proofs.Common.{◌<◌, inl, inr, ℕ, get_or, subst, sym, ◌≡◌, arith}
use Rattle.std.proofs.lemmas.Bool.{cases_lt}
use Rattle.rev_ranks.specs.Graph.{graph_of, Steps}
use Rattle.rev_ranks.proofs.Certificates.{of_each_step, of_each_node}
use Rattle.rev_ranks.proofs.certificate.first_level.Goals as goal

pub returns-then-numbers-node : goal.returns-then-numbers-node
returns-then-numbers-node c = (
  c.loop-node-test.true,
  record {
    falls_below = c.loop-node.invariant;
    levels = λ falls.
        let below = c.bound_above.ensures.least (get_or c.args.numbers.now c.loop-node.node 0)
        (of_each_node c.args.successors.now c.loop-node.node c.index-successors-node.result c.deref.result.now c.loop-node-test.true c.index-successors-node.is c.deref.ensures.value
        (λ s. get_or c.args.numbers.now s 0 < get_or c.args.numbers.now c.loop-node.node 0)
        (λ s st. falls c.loop-node.node s (omega arith) st)) in
        omega arith;
  },
)

pub loop-node-preserved : goal.loop-node-preserved
loop-node-preserved c = λ n s h st.
    elim (cases_lt n c.loop-node.node) [
      | inl below ↦ c.loop-node.invariant n s below st
      | inr above ↦
          let e : n ≡ c.loop-node.node = omega arith in
          let here = of_each_step c.args.successors.now c.loop-node.node c.index-successors-node.result c.deref.result.now c.loop-node-test.true c.index-successors-node.is c.deref.ensures.value
          (λ t. get_or c.args.numbers.now t 0 < c.bound_above.result) c.bound_above.ensures.above s (subst (λ (m : ℕ). Steps (graph_of c.args.successors.now) m s) e st) in
          subst (λ (m : ℕ). get_or c.args.numbers.now s 0 < get_or c.args.numbers.now m 0) (sym e) (omega arith)
    ]
