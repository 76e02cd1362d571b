use Rattle.std.proofs.Common.{◌≡◌, ◌+◌, drop}
use Rattle.std.specs.List.{prefix_len}
use Rattle.rev_syntax.specs.Statements.{is_indented}
use Rattle.rev_syntax.proofs.reader.block_len.Given as goal

abbrev pub invariant-loop-i : goal.invariant-loop-i
invariant-loop-i l = prefix_len is_indented l.lines ≡ l.i + prefix_len is_indented (drop l.i l.lines)
