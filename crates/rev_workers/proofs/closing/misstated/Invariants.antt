use Rattle.std.proofs.Common.{◌<◌, ℕ}
use Rattle.rev_workers.specs.Closing.{IsStated, base_in}
use Rattle.rev_workers.proofs.closing.misstated.Given as goal

abbrev pub invariant-loop-number : goal.invariant-loop-number
invariant-loop-number g l = (m : ℕ) → m < l.number → IsStated (base_in l.lanes) l.journal l.lanes m
