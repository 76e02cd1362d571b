use Rattle.std.proofs.Common.{◌≡◌, ◌≤◌, ◌++◌}
use Rattle.rev_depfile.specs.Signs.{signs_of}
use Rattle.rev_depfile.proofs.SignLemmas.{signs_left}
use Rattle.rev_depfile.proofs.signs.text_signs.Given as goal

-- what is written, with what is left, is the whole; a run of backslashes has no more bytes than were read
abbrev pub invariant-loop-i : goal.invariant-loop-i
invariant-loop-i l =
    (l.signs.items ++ signs_left l.at l.backslashes l.i l.text ≡ signs_of l.text) × (l.backslashes ≤ l.i)
