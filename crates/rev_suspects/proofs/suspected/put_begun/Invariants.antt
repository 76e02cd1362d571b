use Rattle.std.proofs.Common.{◌≡◌, ℕ, ◌<◌, ◌==◌, ◌&&◌, length, nat_lt, if◌then◌else◌}
use Rattle.rev_history.specs.Timeline.{state_at}
use Rattle.rev_suspects.specs.Suspects.{failure_in, list_in, suspects_in}
use Rattle.rev_suspects.proofs.suspected.put_begun.Given as goal

abbrev pub invariant-loop-place : goal.invariant-loop-place
invariant-loop-place l = record {
  each : length l.lists.items ≡ length l.failures;
  lists : (place : ℕ) → place < length l.failures → list_in l.lists.items place
      ≡ (if nat_lt place l.place && ((failure_in l.failures place).began == l.number)
      then suspects_in l.history.timeline.manifest l.files (state_at l.past.timeline) (failure_in l.failures place)
      else list_in l.initial.lists.items place);
}
