use Rattle.std.proofs.Common.{◌≡◌, ◌+◌, ℕ, drop}
use Rattle.std.specs.Prelude.{position}
use Rattle.std.specs.Option.{option_map}
use Rattle.rev_fields.specs.Parts.{slices_of}
use Rattle.rev_baseline.specs.Baselines.{is_odd}
use Rattle.rev_baseline.proofs.baseline.first_odd.Given as goal

abbrev pub invariant-loop-place : goal.invariant-loop-place
invariant-loop-place l = position is_odd (slices_of l.lines) ≡ option_map (λ (n : ℕ). l.place + n) (position is_odd (slices_of (drop l.place l.lines)))
