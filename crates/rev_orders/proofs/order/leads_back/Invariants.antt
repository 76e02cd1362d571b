use Rattle.std.proofs.Common.{◌≡◌, ◌<◌, ℕ, length}
use Rattle.rev_orders.specs.Orders.{at}
use Rattle.rev_orders.proofs.order.leads_back.Given as goal

abbrev pub invariant-loop-k : goal.invariant-loop-k
invariant-loop-k l = (n : ℕ) → n < l.k → (at l.numbers n < length l.places) × (at l.places (at l.numbers n) ≡ n)
