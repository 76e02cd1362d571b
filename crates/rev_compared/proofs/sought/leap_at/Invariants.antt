use Rattle.std.proofs.Common.{ℕ, ◌-◌, ◌<◌, ◌≤◌, length, get_or}
use Rattle.rev_order.specs.Overtaken.{place_at}
use Rattle.rev_compared.proofs.sought.leap_at.Given as goal

-- none so far stands before that one there
abbrev pub invariant-loop-next : goal.invariant-loop-next
invariant-loop-next l = record {
  behind : l.at < l.next;
  within : l.next ≤ length l.numbers;
  between : (j : ℕ) → l.at < j → j < l.next → place_at l.places (get_or l.numbers l.at 0) ≤ place_at l.places (get_or l.numbers j 0);
}

abbrev pub decreases-loop-next : goal.decreases-loop-next
decreases-loop-next l = length l.numbers - l.next
