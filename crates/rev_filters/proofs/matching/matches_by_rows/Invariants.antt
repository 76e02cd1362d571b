use Rattle.std.proofs.Common.{◌≤◌, drop, length}
use Rattle.rev_filters.specs.Patterns.{matches}
use Rattle.rev_filters.specs.Rows.{IsRow}
use Rattle.rev_filters.proofs.matching.matches_by_rows.Given as goal

abbrev pub invariant-loop-place : goal.invariant-loop-place
invariant-loop-place l = record {
  within : l.place ≤ length l.part;
  row : IsRow (matches (drop l.place l.part)) l.bytes l.row.items;
}

abbrev pub decreases-loop-place : goal.decreases-loop-place
decreases-loop-place l = l.place
