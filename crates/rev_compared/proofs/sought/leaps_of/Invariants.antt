use Rattle.std.proofs.Common.{◌≡◌, ℕ, ◌<◌, ◌≤◌, length, get_or}
use Rattle.rev_compared.specs.Inverted.{IsLeap}
use Rattle.rev_compared.proofs.sought.leaps_of.Given as goal

-- the leaps from the end so far
abbrev pub invariant-loop-at : goal.invariant-loop-at
invariant-loop-at l = record {
  within : l.at ≤ length l.numbers;
  size : length l.leaps.items ≡ length l.numbers;
  leaps : (i : ℕ) → l.at ≤ i → i < length l.numbers → IsLeap l.places l.numbers i (get_or l.leaps.items i 0);
}

abbrev pub decreases-loop-at : goal.decreases-loop-at
decreases-loop-at l = l.at
