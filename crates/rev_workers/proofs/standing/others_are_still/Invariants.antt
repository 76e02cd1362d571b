use Rattle.std.proofs.Common.{◌≡◌, ◌≢◌, ◌<◌, ℕ, Some, slice_get}
use Rattle.rev_workers.specs.declared.standing.Standing.{Standing}
use Rattle.rev_workers.specs.Waiting.{IsStill}
use Rattle.rev_workers.proofs.standing.others_are_still.Given as goal

abbrev pub invariant-loop-place : goal.invariant-loop-place
invariant-loop-place l =
    (k : ℕ) → k < l.place → (s : Standing) → slice_get l.standings k ≡ Some s → k ≢ l.number → IsStill l.entries s
