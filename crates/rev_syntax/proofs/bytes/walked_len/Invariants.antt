use Rattle.std.proofs.Common.{◌≡◌, ◌+◌, drop, false}
use Rattle.rev_syntax.specs.Ends.{free_len}
use Rattle.rev_syntax.proofs.bytes.walked_len.Given as goal

abbrev pub invariant-loop-i : goal.invariant-loop-i
invariant-loop-i l = free_len l.end false l.text ≡ l.i + free_len l.end l.taken (drop l.i l.text)
