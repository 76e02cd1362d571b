use Rattle.std.proofs.Common.{◌≡◌, Bool, ◌||◌, take}
use Rattle.std.specs.List.{position_or_len}
use Rattle.rev_causal.specs.Store.{among}
use Rattle.rev_cells.specs.declared.cell.Cell.{Cell}
use Rattle.rev_cells.specs.Keys.{cell_cmp}
use Rattle.rev_held.proofs.several.first_place.Given as goal

abbrev pub invariant-loop-index : goal.invariant-loop-index
invariant-loop-index l =
    (p : Cell → Bool) → l.place ≡ position_or_len p l.set.keys → l.first ≡ position_or_len (λ w. p w || among cell_cmp (take l.index l.cells) w) l.set.keys
