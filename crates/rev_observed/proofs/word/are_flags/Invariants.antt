use Rattle.std.proofs.Common.{◌≡◌, drop}
use Rattle.std.specs.List.{list_all}
use Rattle.rev_fields.specs.Parts.{lent_of}
use Rattle.rev_observed.specs.Words.{is_flag}
use Rattle.rev_observed.proofs.word.are_flags.Given as goal

abbrev pub invariant-loop-text : goal.invariant-loop-text
invariant-loop-text l = list_all is_flag (lent_of l.texts) ≡ list_all is_flag (lent_of (drop l.text-index l.texts))
