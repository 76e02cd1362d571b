use Rattle.std.proofs.Common.{◌≡◌, ℕ, ◌&&◌, ◌||◌, drop}
use Rattle.rev_causal.specs.Chosen.{IsRising, is_among}
use Rattle.rev_accesses.specs.Following.{is_below}
use Rattle.rev_accesses.proofs.between.add_below.Given as goal

-- those that are added are those that were added so far and those that are left
abbrev pub invariant-loop-number : goal.invariant-loop-number
invariant-loop-number l = record {
  rising : IsRising (drop l.number-index l.numbers);
  added : (k : ℕ) → ((is_among (drop l.number-index l.numbers) k && is_below l.bound k) || is_among l.pending k) ≡ ((is_among l.numbers k && is_below l.bound k) || is_among l.fn.pending k);
}
