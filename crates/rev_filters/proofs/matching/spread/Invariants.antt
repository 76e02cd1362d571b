use Rattle.std.proofs.Common.{◌≤◌, ℕ, List, Bool, length}
use Rattle.rev_filters.specs.Rows.{IsRow}
use Rattle.rev_filters.proofs.RowLemmas.{IsSpread}
use Rattle.rev_filters.proofs.matching.spread.Given as goal

abbrev pub invariant-loop-place : goal.invariant-loop-place
invariant-loop-place l = record {
  within : l.place ≤ length l.row.items;
  spread : (passes : List ℕ → Bool) (bytes : List ℕ) → IsRow passes bytes l.initial.row.items → IsSpread passes bytes l.row.items l.place l.any;
}

abbrev pub decreases-loop-place : goal.decreases-loop-place
decreases-loop-place l = l.place
