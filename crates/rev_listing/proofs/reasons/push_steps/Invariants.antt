use Rattle.std.proofs.Common.{◌≡◌, ◌++◌, take}
use Rattle.std.specs.List.{flat_map}
use Rattle.rev_listing.specs.Why.{step_text}
use Rattle.rev_listing.proofs.reasons.push_steps.Given as goal

abbrev pub invariant-loop-edge : goal.invariant-loop-edge
invariant-loop-edge l = l.text.items ≡ l.initial.text.items ++ flat_map (step_text l.graph.manifest.builds l.cells.state) (take l.edge-index l.steps)
