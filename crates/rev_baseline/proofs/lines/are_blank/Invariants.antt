use Rattle.std.proofs.Common.{◌≡◌, drop}
use Rattle.std.specs.List.{list_all}
use Rattle.rev_fields.specs.Lines.{is_blank}
use Rattle.rev_fields.specs.Parts.{slices_of}
use Rattle.rev_baseline.proofs.lines.are_blank.Given as goal

abbrev pub invariant-loop-word : goal.invariant-loop-word
invariant-loop-word l = list_all is_blank (slices_of l.words) ≡ list_all is_blank (slices_of (drop l.word-index l.words))
