use Rattle.std.proofs.Common.{◌≡◌, ◌<◌, ℕ, false}
use Rattle.rev_plan.specs.Plan.{is_running}
use Rattle.rev_plan.proofs.marks.first_running.Given as goal

abbrev pub invariant-loop-edge : goal.invariant-loop-edge
invariant-loop-edge l = (k : ℕ) → k < l.edge → is_running l.cells.state k ≡ false
