use Rattle.std.proofs.Common.{◌≡◌, ◌+◌, drop}
use Rattle.rev_patch.specs.Author.{line_len}
use Rattle.rev_patch.proofs.made_by.line_len.Given as goal

abbrev pub invariant-loop-i : goal.invariant-loop-i
invariant-loop-i l = line_len l.text ≡ l.i + line_len (drop l.i l.text)
