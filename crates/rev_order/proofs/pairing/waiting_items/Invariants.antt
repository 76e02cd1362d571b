use Rattle.std.proofs.Common.{◌≤◌, drop, length, map}
use Rattle.rev_causal.specs.Chosen.{chosen}
use Rattle.rev_order.specs.Waiting.{Waits}
use Rattle.rev_order.proofs.pairing.waiting_items.Given as goal

-- the items that are seen wait
abbrev pub invariant-loop-left : goal.invariant-loop-left
invariant-loop-left g l =
    record {
      within : l.left ≤ length l.kept;
      waits : Waits g.T.PartialEq.eq (map (λ e. (e.0.now, e.1.items)) l.waiting.numbers.entries) (chosen l.items.entries (drop l.left l.kept));
    }

abbrev pub decreases-loop-left : goal.decreases-loop-left
decreases-loop-left g l = l.left
