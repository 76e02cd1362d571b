use Rattle.std.proofs.Common.{◌≡◌, drop}
use Rattle.rev_causal.specs.Chosen.{chosen}
use Rattle.rev_causal.specs.Store.{conflict}
use Rattle.rev_cells.specs.Keys.{cell_cmp}
use Rattle.rev_history.specs.Along.{prints_along}
use Rattle.rev_order.specs.Pairs.{inverted_pair}
use Rattle.rev_compared.proofs.sought.pair_near.Given as goal

-- none of those so far is the first of a pair
abbrev pub invariant-loop-at : goal.invariant-loop-at
invariant-loop-at l =
    inverted_pair (conflict cell_cmp) l.places (chosen (prints_along l.history.timeline) (drop l.at l.numbers))
    ≡ inverted_pair (conflict cell_cmp) l.places (chosen (prints_along l.history.timeline) l.numbers)
