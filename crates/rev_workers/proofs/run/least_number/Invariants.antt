use Rattle.std.proofs.Common.{◌≡◌, ◌<◌, ◌≤◌, ℕ, Some, slice_get}
use Rattle.rev_workers.specs.Tracks.{Track}
use Rattle.rev_workers.specs.Running.{HasNumber}
use Rattle.rev_workers.proofs.run.least_number.Given as goal

abbrev pub invariant-loop-lane : goal.invariant-loop-lane
invariant-loop-lane g l =
    record {
      among : HasNumber l.lanes l.least;
      least : (k : ℕ) → k < l.lane-index → (t : Track) → slice_get l.lanes k ≡ Some t → l.least ≤ t.number;
    }
