use Rattle.std.proofs.Common.{◌≡◌, ◌+◌, drop}
use Rattle.rev_depfile.specs.Lines.{place, is_blank}
use Rattle.rev_depfile.proofs.words.word_len.Given as goal

abbrev pub invariant-loop-i : goal.invariant-loop-i
invariant-loop-i l = place is_blank l.signs ≡ l.i + place is_blank (drop l.i l.signs)
