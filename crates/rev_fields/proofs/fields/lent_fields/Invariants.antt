use Rattle.std.proofs.Common.{◌≡◌, drop}
use Rattle.rev_fields.specs.Fields.{all_texts}
use Rattle.rev_fields.specs.Parts.{slices_of, lent_of}
use Rattle.rev_fields.proofs.FieldLemmas.{joined}
use Rattle.rev_fields.proofs.fields.lent_fields.Given as goal

abbrev pub invariant-loop-field : goal.invariant-loop-field
invariant-loop-field l = joined (lent_of l.texts.items) (all_texts (drop l.field-index (slices_of l.field-items))) ≡ all_texts (slices_of l.field-items)
