use Rattle.std.proofs.Common.{◌≡◌, ◌<◌, ◌&&◌, ℕ, false}
use Rattle.std.specs.Prelude.{is_some}
use Rattle.rev_ranks.specs.Sets.{is_marked}
use Rattle.rev_plan.specs.Plan.{lacking}
use Rattle.rev_plan.proofs.lacking.missing_input_among.Given as goal

abbrev pub invariant-loop-edge : goal.invariant-loop-edge
invariant-loop-edge l = (k : ℕ) → k < l.edge → (is_marked l.marks k && is_some (lacking l.graph.manifest.builds l.cells.state k)) ≡ false
