use Rattle.std.proofs.Common.{◌≡◌, ℕ, List, drop, length, map}
use Rattle.rev_causal.specs.Chosen.{chosen}
use Rattle.rev_causal.specs.History.{IsRising}
use Rattle.rev_causal.specs.OrderCheck.{bare}
use Rattle.rev_order.specs.Matched.{IsLeft}
use Rattle.rev_order.specs.Waiting.{Waits}
use Rattle.rev_order.proofs.pairing.take_all.Given as goal

-- the items that are left find the numbers that are left
abbrev pub invariant-loop-number : goal.invariant-loop-number
invariant-loop-number g l =
    (xs : List (ℕ × g.row.T.Denot)) → IsRising xs → length xs ≡ length (bare (chosen l.items.entries l.kept))
    → Waits g.T.PartialEq.eq (map (λ e. (e.0.now, e.1.items)) l.fn.waiting.numbers.entries) xs
    → IsLeft g.T.PartialEq.eq xs (bare (chosen l.items.entries l.kept)) l.numbers.items (bare (chosen l.items.entries (drop l.number-index l.kept))) (map (λ e. (e.0.now, e.1.items)) l.waiting.numbers.entries)
