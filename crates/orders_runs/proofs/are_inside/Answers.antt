use Rattle.std.proofs.Common.{◌≡◌, ◌<◌, ℕ, List, get_or, length, inl, inr, subst, sym, ◌∙◌, arith}
use Rattle.std.specs.Global.{Vec}
use Rattle.std.specs.List.{All}
use Rattle.std.proofs.lemmas.Bool.{cases_lt}
use Rattle.std.proofs.lemmas.List.{get_or_default}
use Rattle.orders_runs.proofs.are_inside.Goals as goal

pub loop-node-preserved : goal.loop-node-preserved
loop-node-preserved c = λ k d h.
    elim (cases_lt k c.loop-node.node) [
      | inl below ↦ c.loop-node.invariant k d below
      | inr above ↦
          let steps = c.args.steps.now in
          let same : k ≡ c.loop-node.node = omega arith in
          let is : c.index-steps-node.result ≡ get_or steps c.loop-node.node d = c.index-steps-node.is ∙ get_or_default steps c.loop-node.node c.index-steps-node.result d c.loop-node-test.true in
          let here : All (λ s. s < length steps) c.index-steps-node.result.items = subst (λ (ns : List ℕ). All (λ s. s < length steps) ns) c.deref.ensures.value c.if-not-are_nodes.ensures in
          subst (λ n. All (λ s. s < length steps) (get_or steps n d).items) (sym same) (subst (λ (v : Vec ℕ). All (λ s. s < length steps) v.items) is here)
    ]
