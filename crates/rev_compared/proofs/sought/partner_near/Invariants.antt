use Rattle.std.proofs.Common.{◌≡◌, ◌+◌, ◌-◌, ◌<◌, ◌≤◌, Some, drop, get_or, length}
use Rattle.rev_causal.specs.Chosen.{chosen}
use Rattle.rev_causal.specs.Store.{conflict}
use Rattle.rev_cells.specs.Keys.{cell_cmp}
use Rattle.rev_footprint.specs.Value.{FootprintValue, print_of}
use Rattle.rev_history.specs.Along.{prints_along}
use Rattle.rev_history.specs.Timeline.{kept_footprint}
use Rattle.rev_order.specs.Pairs.{partner_of}
use Rattle.rev_compared.proofs.sought.partner_near.Given as goal

-- none of the numbers so far is the partner
abbrev pub invariant-loop-next : goal.invariant-loop-next
invariant-loop-next l = record {
  behind : l.at < l.next;
  within : l.next ≤ length l.numbers;
  same : (f : FootprintValue) → kept_footprint l.history.timeline (get_or l.numbers l.at 0) ≡ Some f
      → partner_of (conflict cell_cmp) l.places (chosen (prints_along l.history.timeline) (drop (l.at + 1) l.numbers)) (get_or l.numbers l.at 0) (print_of f)
      ≡ partner_of (conflict cell_cmp) l.places (chosen (prints_along l.history.timeline) (drop l.next l.numbers)) (get_or l.numbers l.at 0) (print_of f);
}

abbrev pub decreases-loop-next : goal.decreases-loop-next
decreases-loop-next l = length l.numbers - l.next
