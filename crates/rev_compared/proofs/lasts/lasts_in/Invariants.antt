use Rattle.std.proofs.Common.{◌≡◌, ◌<◌, ℕ, None, drop, length}
use Rattle.std.specs.Prelude.{slice_index_or}
use Rattle.rev_compared.specs.Lasts.{last_from}
use Rattle.rev_compared.proofs.lasts.lasts_in.Given as goal

-- the runs that are left say what the last ones are
abbrev pub invariant-loop-run : goal.invariant-loop-run
invariant-loop-run l =
    record {
      size : length l.lasts.items ≡ length l.history.timeline.manifest.builds;
      last : (edge : ℕ) → edge < length l.history.timeline.manifest.builds
          → last_from l.history.timeline edge (slice_index_or l.lasts.items edge None) (drop l.run-index l.runs)
          ≡ last_from l.history.timeline edge None l.runs;
    }
