use Rattle.std.proofs.Common.{◌≡◌, drop}
use Rattle.std.specs.List.{list_any}
use Rattle.rev_fields.specs.Lines.{is_blank}
use Rattle.rev_fields.specs.Parts.{slices_of}
use Rattle.rev_filters.proofs.filters.any_blank.Given as goal

abbrev pub invariant-loop-part : goal.invariant-loop-part
invariant-loop-part l = list_any is_blank (slices_of l.parts) ≡ list_any is_blank (slices_of (drop l.part-index l.parts))
