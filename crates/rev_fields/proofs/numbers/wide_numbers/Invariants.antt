use Rattle.std.proofs.Common.{◌≡◌, ◌^◌, drop}
use Rattle.rev_fields.specs.Faults.{each_of}
use Rattle.rev_fields.specs.Numbers.{number_below}
use Rattle.rev_fields.specs.Parts.{slices_of}
use Rattle.rev_fields.proofs.EachLemmas.{after}
use Rattle.rev_fields.proofs.numbers.wide_numbers.Given as goal

abbrev pub invariant-loop-part : goal.invariant-loop-part
invariant-loop-part l = after l.numbers.items (each_of (number_below (2 ^ 64)) (drop l.part-index (slices_of l.part-items))) ≡ each_of (number_below (2 ^ 64)) (slices_of l.part-items)
