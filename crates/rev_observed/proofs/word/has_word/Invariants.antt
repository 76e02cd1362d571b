use Rattle.std.proofs.Common.{◌≡◌, drop}
use Rattle.rev_fields.specs.Parts.{lent_of}
use Rattle.rev_observed.specs.Words.{has_word}
use Rattle.rev_observed.proofs.word.has_word.Given as goal

abbrev pub invariant-loop-text : goal.invariant-loop-text
invariant-loop-text l = has_word (lent_of l.texts) l.word ≡ has_word (lent_of (drop l.text-index l.texts)) l.word
