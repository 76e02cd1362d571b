use Rattle.std.proofs.Common.{◌≡◌, ◌+◌, drop}
use Rattle.rev_depfile.specs.Lines.{place, is_line_end}
use Rattle.rev_depfile.proofs.words.line_len.Given as goal

abbrev pub invariant-loop-i : goal.invariant-loop-i
invariant-loop-i l = place is_line_end l.signs ≡ l.i + place is_line_end (drop l.i l.signs)
