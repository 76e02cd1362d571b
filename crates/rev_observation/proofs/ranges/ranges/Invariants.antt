use Rattle.std.proofs.Common.{◌≡◌, drop}
use Rattle.rev_fields.specs.Faults.{each_of}
use Rattle.rev_fields.specs.Parts.{lent_of}
use Rattle.rev_fields.proofs.EachLemmas.{after}
use Rattle.rev_observed.specs.Ranges.{range_of}
use Rattle.rev_observation.proofs.ranges.ranges.Given as goal

abbrev pub invariant-loop-text : goal.invariant-loop-text
invariant-loop-text l = after l.ranges.items (each_of range_of (drop l.text-index (lent_of l.texts))) ≡ each_of range_of (lent_of l.texts)
