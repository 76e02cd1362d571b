use Rattle.std.proofs.Common.{◌≡◌, map, take}
use Rattle.rev_prompt.specs.Reasons.{because}
use Rattle.rev_prompt.proofs.reasons.reasons_told.Given as goal

abbrev pub invariant-loop-reason : goal.invariant-loop-reason
invariant-loop-reason l =
    l.told.items ≡ map (because l.graph.manifest.builds l.cells.state l.edge) (take l.reason-index l.reasons)
