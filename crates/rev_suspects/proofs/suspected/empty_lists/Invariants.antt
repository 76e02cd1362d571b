use Rattle.std.proofs.Common.{◌≡◌, ℕ, ◌-◌, ◌≤◌, [], length}
use Rattle.rev_suspects.specs.Suspects.{list_in}
use Rattle.rev_suspects.proofs.suspected.empty_lists.Given as goal

abbrev pub invariant-loop-alloc : goal.invariant-loop-alloc
invariant-loop-alloc l = record {
  each : length l.lists.items ≤ l.count;
  empty : (place : ℕ) → list_in l.lists.items place ≡ [];
}

abbrev pub decreases-loop-alloc : goal.decreases-loop-alloc
decreases-loop-alloc l = l.count - length l.lists.items
