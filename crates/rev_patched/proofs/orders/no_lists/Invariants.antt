use Rattle.std.proofs.Common.{◌≡◌, ℕ, [], length}
use Rattle.rev_patched.specs.Same.{listed_at}
use Rattle.rev_patched.proofs.orders.no_lists.Given as goal

abbrev pub invariant-loop : goal.invariant-loop
invariant-loop l = record {
  each : length l.lists.items ≡ l.counter;
  empty : (edge : ℕ) → listed_at l.lists.items edge ≡ [];
}
