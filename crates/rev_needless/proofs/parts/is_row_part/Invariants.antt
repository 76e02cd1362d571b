use Rattle.std.proofs.Common.{◌≡◌, ◌<◌, ℕ, true}
use Rattle.rev_ranks.specs.Sets.{is_marked}
use Rattle.rev_needless.proofs.parts.is_row_part.Given as goal

abbrev pub invariant-loop-place : goal.invariant-loop-place
invariant-loop-place l = (k : ℕ) → k < l.place → is_marked l.part k ≡ true → is_marked l.whole k ≡ true
