use Rattle.std.proofs.Common.{take}
use Rattle.rev_fields.specs.Parts.{slices_of}
use Rattle.rev_observation.specs.Observations.{nothing_by}
use Rattle.rev_observation.specs.Says.{Says}
use Rattle.rev_observation.proofs.reading.read_rest.Given as goal

abbrev pub invariant-loop-place : goal.invariant-loop-place
invariant-loop-place l = Says (nothing_by l.fn.by) (take l.place (slices_of l.lines)) l.observation
