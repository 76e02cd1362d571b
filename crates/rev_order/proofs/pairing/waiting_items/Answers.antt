use Rattle.std.proofs.Common.{◌≡◌, ◌∷◌, ◌+◌, ◌-◌, ◌<◌, ℕ, List, map, length, get_or, drop, sym, ap, subst, ◌∙◌, arith}
use Rattle.rev_causal.specs.Chosen.{chosen}
use Rattle.rev_order.specs.Waiting.{Waits}
use Rattle.rev_order.proofs.Matching.{chosen-next}
use Rattle.rev_order.proofs.pairing.waiting_items.Goals as goal

pub loop-left-preserved : goal.loop-left-preserved
loop-left-preserved g c =
    let es = c.args.items.now.entries in
    let ks : List ℕ = c.args.kept.now in
    let i : ℕ = c.loop-left.left - 1 in
    let back : i + 1 ≡ c.loop-left.left = omega (arith, c.loop-left-test.true) in
    let lt : i < length ks = omega (arith, c.loop-left-test.true, c.loop-left.invariant.within) in
    record {
      within = omega (arith, c.loop-left.invariant.within);
      waits = subst (λ (ys : List (ℕ × g.row.T.Denot)). Waits g.T.PartialEq.eq (map (λ e. (e.0.now, e.1.items)) c.put_first.new.self.numbers.entries) ys)
          (sym (chosen-next es ks i c.item_at.result.now lt c.item_at.ensures ∙ ap (λ (j : ℕ). (get_or ks i 0, c.item_at.result.now) ∷ chosen es (drop j ks)) back))
          (c.in_ok-put_first.ensures (chosen es (drop c.loop-left.left ks)) c.loop-left.invariant.waits);
    }
