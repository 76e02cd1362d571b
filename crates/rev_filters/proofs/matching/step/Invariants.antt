use Rattle.std.proofs.Common.{◌≡◌, ◌+◌, ℕ, List, Bool, length}
use Rattle.rev_filters.specs.Rows.{IsRow}
use Rattle.rev_filters.proofs.RowLemmas.{IsStepped}
use Rattle.rev_filters.proofs.matching.step.Given as goal

abbrev pub invariant-loop-place : goal.invariant-loop-place
invariant-loop-place l = record {
  each : length l.row.items ≡ length l.bytes + 1;
  step : (passes : List ℕ → Bool) → IsRow passes l.bytes l.initial.row.items → IsStepped passes l.bytes l.byte l.row.items l.place;
}
