use Rattle.std.proofs.Common.{◌≡◌, ◌<◌, ℕ, [], false, get_or}
use Rattle.rev_graph.specs.Graph.{build_at, inputs_of}
use Rattle.rev_plan.specs.Plan.{is_lacking}
use Rattle.rev_plan.proofs.lacking.first_lacking.Given as goal

abbrev pub invariant-loop-position : goal.invariant-loop-position
invariant-loop-position l = (k : ℕ) → k < l.position → is_lacking l.graph.manifest.builds l.cells.state (get_or (inputs_of (build_at l.graph.manifest.builds l.edge)) k []) ≡ false
