use Rattle.std.proofs.Common.{◌≡◌, take}
use Rattle.rev_observed.specs.Observations.{outputs_of as outputs_of_words}
use Rattle.rev_observation.specs.Blocks.{outputs_of}
use Rattle.rev_observation.proofs.words.have_outputs.Given as goal

abbrev pub invariant-loop-place : goal.invariant-loop-place
invariant-loop-place l = take l.place (outputs_of_words l.words) ≡ take l.place (outputs_of l.commands)
