use Rattle.std.proofs.Common.{length, ◌-◌, ◌<◌, ◌≤◌, ℕ, slice_index_or}
use Rattle.rev_contents.specs.declared.looks.Look.{Look}
use Rattle.rev_contents.proofs.compare.first_from.Given as goal

abbrev pub invariant-loop-at : goal.invariant-loop-at
invariant-loop-at l =
    (l.from ≤ l.at) × (l.at ≤ length l.looks)
    × ((k : ℕ) (d : Look) → l.from ≤ k → k < l.at → (slice_index_or l.looks k d).place < l.place)

-- the looks that are left
abbrev pub decreases-loop-at : goal.decreases-loop-at
decreases-loop-at l = length l.looks - l.at
