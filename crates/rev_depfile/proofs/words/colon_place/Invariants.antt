use Rattle.std.proofs.Common.{◌≡◌, ◌+◌, drop}
use Rattle.rev_depfile.specs.Lines.{place, is_colon}
use Rattle.rev_depfile.proofs.words.colon_place.Given as goal

abbrev pub invariant-loop-i : goal.invariant-loop-i
invariant-loop-i l = place is_colon l.signs ≡ l.i + place is_colon (drop l.i l.signs)
