use Rattle.std.proofs.Common.{◌≡◌, ◌<◌, ℕ}
use Rattle.rev_workers.specs.Closing.{numbered}
use Rattle.rev_workers.proofs.closing.missing.Given as goal

abbrev pub invariant-loop-number : goal.invariant-loop-number
invariant-loop-number g l = (m : ℕ) → m < l.number → numbered m l.lanes ≡ 1
