use Rattle.std.proofs.Common.{◌≡◌, map, take}
use Rattle.rev_prompt.specs.Reasons.{wait_of}
use Rattle.rev_prompt.proofs.reasons.waits.Given as goal

abbrev pub invariant-loop-step : goal.invariant-loop-step
invariant-loop-step l =
    l.waits.items ≡ map (wait_of l.graph.manifest.builds l.cells.state) (take l.step-index l.steps)
