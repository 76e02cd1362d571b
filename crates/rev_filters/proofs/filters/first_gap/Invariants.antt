use Rattle.std.proofs.Common.{◌≡◌, ◌+◌, ℕ, drop}
use Rattle.std.specs.Prelude.{position}
use Rattle.std.specs.Option.{option_map}
use Rattle.rev_fields.specs.Parts.{slices_of}
use Rattle.rev_filters.specs.Texts.{has_gap}
use Rattle.rev_filters.proofs.filters.first_gap.Given as goal

abbrev pub invariant-loop-place : goal.invariant-loop-place
invariant-loop-place l = position has_gap (slices_of l.lines) ≡ option_map (λ (n : ℕ). l.place + n) (position has_gap (slices_of (drop l.place l.lines)))
