use Rattle.std.proofs.Common.{◌≡◌, ◌++◌, drop}
use Rattle.rev_fields.specs.Parts.{slices_of}
use Rattle.rev_baseline.specs.Baselines.{ignored_of}
use Rattle.rev_baseline.proofs.baseline.filters_in.Given as goal

abbrev pub invariant-loop-place : goal.invariant-loop-place
invariant-loop-place l = l.filters.items ++ ignored_of (slices_of (drop l.place l.lines)) ≡ ignored_of (slices_of l.lines)
