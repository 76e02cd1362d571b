use Rattle.std.proofs.Common.{take}
use Rattle.std.specs.List.{flat_map}
use Rattle.sha2.specs.Hashers.{Holds256}
use Rattle.rev_fields.specs.Parts.{slices_of}
use Rattle.rev_observation.specs.Ends.{ended}
use Rattle.rev_observation.proofs.ends.digest_of.Given as goal

abbrev pub invariant-loop-line : goal.invariant-loop-line
invariant-loop-line l = Holds256 l.hasher (flat_map ended (take l.line-index (slices_of l.lines)))
